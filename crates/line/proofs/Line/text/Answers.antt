use Rattle.std.proofs.Common.{arith, rules}
use Rattle.line.proofs.Reading.{line_ends, line_read}
use Rattle.line.proofs.Line.text.Goals as goal
use Rattle.line.proofs.Line.text.Goals.{in-Lot, in-Notice, in-Print, in-Fill, in-Refusal}
use Rattle.line.specs.Reading.{OfTypes}

-- the numbers of the line are of their types
self_of_types : (c : goal.After-push_str-2) → OfTypes c.args.self
self_of_types c = elim c.match-self.branch [
  | in-Lot w ↦ rw w.in-Lot.is (omega arith)
  | in-Notice w ↦ rw w.in-Notice.is (omega arith, search rules, omega arith)
  | in-Print w ↦ rw w.in-Print.is (omega arith, omega arith)
  | in-Fill w ↦ rw w.in-Fill.is (omega arith, omega arith, omega arith)
  | in-Refusal w ↦ rw w.in-Refusal.is (omega arith)
]

pub returns-clause-ends : goal.returns-clause-ends
returns-clause-ends c = line_ends c.args.self (self_of_types c)

pub returns-clause-readable : goal.returns-clause-readable
returns-clause-readable c = λ other t e. line_read other c.args.self t (self_of_types c) e
