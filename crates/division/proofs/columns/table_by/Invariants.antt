use Rattle.std.proofs.Common.{◌≡◌, ◌+◌, ◌++◌, string_bytes}
use Rattle.std.specs.Iterator.Adapters.{enumerate_source, enumerate_count, zip_first, zip_second}
use Rattle.std.specs.Slice.Iter.{iter_rest}
use Rattle.division.specs.Table.{heading, rows}
use Rattle.division.proofs.columns.table_by.Given as goal

-- what is written, and then the rows still to come, is the heading and all rows
abbrev pub invariant-loop-i : goal.invariant-loop-i
invariant-loop-i l =
    let left = enumerate_source l.i-iterator in
    string_bytes l.out ++ rows (enumerate_count l.i-iterator + 1) (iter_rest (zip_first (zip_first left))) (iter_rest (zip_second (zip_first left))) (iter_rest (zip_second left))
    ≡ heading ++ rows 1 l.claims l.arrival l.turns
