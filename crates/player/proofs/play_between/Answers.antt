use Rattle.std.proofs.Common.{rules}
use Rattle.player.proofs.Playing.{plays_tape}
use Rattle.player.proofs.play_between.Goals as goal

pub returns-clause-tape : goal.returns-clause-tape
returns-clause-tape g c = plays_tape g.S.Sharing.LOT (g.S.Sharing.meaning c.args.method.now) _ _ (search rules) c.play_file.result c.play_file.ensures.plays
