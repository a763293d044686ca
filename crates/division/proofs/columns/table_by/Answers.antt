use Rattle.std.proofs.Common.{◌∙◌, inl, inr, rules}
use Rattle.division.proofs.Lines.{heading_is, numbers_are, sums_are, rows_more, table_whole}
use Rattle.division.proofs.columns.table_by.Goals as goal

pub loop-i-init : goal.loop-i-init
loop-i-init c =
    let wrote = c.in_ok-out.ensures.ok ∙ heading_is _ _ _ _ c.laid_out.ensures c.laid_out-2.ensures c.laid_out-3.ensures c.laid_out-4.ensures in
    search rules

pub loop-i-preserved : goal.loop-i-preserved
loop-i-preserved c =
    let steps = c.in-Some.ensures.steps in
    rows_more _ _ _ _ _ _ _ _ _ _ _ _ _ _ _ _ steps.0.0.0 steps.0.0.1 steps.0.1 steps.1 steps.2
    c.in_ok-writeln.ensures.bytes
    (numbers_are _ _ _ _ c.laid_out-in-loop-i.ensures c.laid_out-in-loop-i-2.ensures c.laid_out-in-loop-i-3.ensures c.laid_out-in-loop-i-4.ensures _ _ _ _)
    c.loop-i.invariant

pub returns : goal.returns
returns c =
    table_whole c.args.claims.now c.args.arrival.now c.args.turns.now _ _ _ _ _ _ _ _ _ _
    (elim c.in-None.ensures.steps.0 [
      | inl first ↦ elim first.1 [ inl k ↦ inl (inl k.1.0) | inr k ↦ inl (inr k.1.0) ]
      | inr k ↦ inr k.1.0
    ])
    c.loop-i.invariant c.sum_of.ensures c.sum_of-2.ensures c.sum_of-3.ensures
    c.in_ok-writeln-2.ensures.bytes
    (sums_are _ _ _ _ c.laid_out-5.ensures c.laid_out-6.ensures c.laid_out-7.ensures c.laid_out-8.ensures _ _ _)
