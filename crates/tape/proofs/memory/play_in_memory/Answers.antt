use Rattle.std.proofs.Common.{List, ◌++◌, refl, sym, ap, ◌∙◌}
use Rattle.line.specs.declared.Line.{Line}
use Rattle.tape.specs.Memory.{written_in}
use Rattle.tape.specs.Tapes.{texts}
use Rattle.tape.proofs.Whole.{on_played}
use Rattle.tape.proofs.memory.play_in_memory.Goals as goal

pub returns-clause-plays : goal.returns-clause-plays
returns-clause-plays g c = (_, c.play_file.ensures.plays)

pub returns-clause-succeeds : goal.returns-clause-succeeds
returns-clause-succeeds g c = λ room. c.play_file.ensures.succeeds (record { reads = refl; writes = room })

pub returns-clause-tape : goal.returns-clause-tape
returns-clause-tape g c =
    on_played _ _ c.play_file.result _ _ c.play_file.ensures.plays
    (λ played. played.wrote ∙ ap (λ (l : List Line). written_in c.args.output.now ++ texts l) (sym played.whole))
