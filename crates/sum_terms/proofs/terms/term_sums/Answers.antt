-- `sum_terms::terms::term_sums` meets its contract. The invariant: the sums are those of the rows before the index.
use mathlib.Core.Path.{◌∙◌, ap, refl}
use Prim.Native.Nat.{zero-le}
use native.Mathlib.Omega.{arith}
use mir.Syntax.{w64}
use mir.Val.{to_z}
use Rattle.sum_rules.specs.Table.{total}
use Rattle.sum_terms.proofs.SumLoop.{Next, all_added, next}
use Rattle.sum_terms.proofs.terms.term_sums.Given.{Over}
use Rattle.sum_terms.proofs.terms.term_sums.Goals as goal
use Rattle.sum_terms.proofs.terms.term_sums.Goals.{After-row_terms-term}

-- a turn of the loop
module _ (g : Over) (c : After-row_terms-term g) where
  sine_next : Next (g.T.RowTerms.sine c.args.terms.now) c.args.table.now c.loop-row.row-index c.loop-row.sine-bits c.row_terms-term.result.sine
  sine_next =
      next c.requires.by_sine tt c.loop-row.row-index c.loop-row.sine-bits _ c.loop-row-test.true c.loop-row.invariant.1.0
      (c.row_terms-term.ensures.0 ∙ ap (g.T.RowTerms.sine c.args.terms.now) c.row-item.is)

  cosine_next : Next (g.T.RowTerms.cosine c.args.terms.now) c.args.table.now c.loop-row.row-index c.loop-row.cosine-bits c.row_terms-term.result.cosine
  cosine_next =
      next c.requires.by_cosine tt c.loop-row.row-index c.loop-row.cosine-bits _ c.loop-row-test.true c.loop-row.invariant.1.1
      (c.row_terms-term.ensures.1 ∙ ap (g.T.RowTerms.cosine c.args.terms.now) c.row-item.is)

pub loop-row-init : goal.loop-row-init
unfolding total
loop-row-init g c = (zero-le, (refl, refl))

pub overflow_add-sine : goal.overflow_add-sine
overflow_add-sine g c = (sine_next g (goal.at.overflow_add-sine g c).After-row_terms-term).fit

pub overflow_add-cosine : goal.overflow_add-cosine
overflow_add-cosine g c = (cosine_next g (goal.at.overflow_add-cosine g c).After-row_terms-term).fit

pub loop-row-preserved : goal.loop-row-preserved
loop-row-preserved g c =
    let r = (goal.at.loop-row-preserved g c).After-row_terms-term in
    (omega (arith, c.loop-row-test.true), ((sine_next g r).is, (cosine_next g r).is))

pub returns : goal.returns
returns g c =
    let t = c.loop-row in (
      all_added (g.T.RowTerms.sine c.args.terms.now) c.args.table.now t.row-index (to_z w64 t.sine-bits) c.loop-row-test.false t.invariant.1.0,
      all_added (g.T.RowTerms.cosine c.args.terms.now) c.args.table.now t.row-index (to_z w64 t.cosine-bits) c.loop-row-test.false t.invariant.1.1,
    )
