use Rattle.std.proofs.Common.{rules}
use Rattle.std.proofs.lemmas.List.{take_at, length-take-le}
use Rattle.std.proofs.lemmas.List.Edits.{length-remove}
use Rattle.list.proofs.Gap.{closed}
use Rattle.list.proofs.places.close_gap.Goals as goal

pub returns-clause-after : goal.returns-clause-after
returns-clause-after g c = search (rules, closed)

pub returns-clause-items : goal.returns-clause-items
returns-clause-items g c = search (rules, closed, take_at, length-remove, length-take-le)
