use Rattle.std.proofs.Common.{refl}
use Rattle.std.specs.Fmt.{digits}
use Rattle.book.specs.Weight.{must_execute, open_to_both}
use Rattle.clock.specs.Table.{line_of}
use Rattle.examples.specs.Table.{table}
use Rattle.examples.proofs.Passing.{all_hold}
use Rattle.examples.proofs.worked.Goals as goal

-- one comparison over the whole table
pub returns : goal.returns
unfolding must_execute open_to_both line_of digits
returns c = record { value = refl; hold = all_hold table refl }
