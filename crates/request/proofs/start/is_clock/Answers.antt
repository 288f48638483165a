-- `request::start::is_clock` meets its contract: at each return the tests that led there decide it.
use mathlib.Core.Path.{◌∙◌, sym}
use lib.IntN.{pos}
use borrow.Author.Rules.{rules}
use mir.Syntax.{w64}
use mir.Val.{SFits}
use Rattle.request.proofs.RequestLaws.{tested}
use Rattle.request.specs.Request.{fraction_limit, is_clock}
use Rattle.request.proofs.start.is_clock.Goals as goal
use Rattle.request.proofs.start.is_clock.Goals.{Start, else-is_between, else-is_between-2, then-is_between, then-is_between-2}

module _ (s : Start) where
  hour_fits : SFits w64 s.args.start.hour
  hour_fits = search rules

  minute_fits : SFits w64 s.args.start.minute
  minute_fits = search rules

  second_fits : SFits w64 s.args.start.second
  second_fits = search rules

  fraction_fits : SFits w64 s.args.start.fraction
  fraction_fits = search rules

pub returns-then-is_between-3 : goal.returns-then-is_between-3
unfolding is_clock
returns-then-is_between-3 c =
    let s = (goal.at.returns-then-is_between-3 c).Start in
    let start = s.args.start in
    elim c.if-is_between-2.branch [
      | then-is_between-2 third ↦ elim c.if-is_between.branch [
        | then-is_between second ↦ simp (
          tested (pos 0) start.hour (pos 23) (hour_fits s) c.is_between.ensures ∙ second.if-is_between.true,
          tested (pos 0) start.minute (pos 59) (minute_fits s) second.is_between-then-is_between.ensures ∙ sym second.value-is ∙ third.if-is_between-2.true,
          tested (pos 0) start.second (pos 59) (second_fits s) third.is_between-then-is_between-2.ensures ∙ sym third.value-is ∙ c.if-is_between-3.true,
          tested (pos 0) start.fraction (pos fraction_limit) (fraction_fits s) c.is_between-then-is_between-3.ensures,
        )
        | else-is_between second ↦ cc
      ]
      | else-is_between-2 third ↦ cc
    ]

pub returns-else-is_between-3 : goal.returns-else-is_between-3
unfolding is_clock
returns-else-is_between-3 c =
    let s = (goal.at.returns-else-is_between-3 c).Start in
    let start = s.args.start in
    elim c.if-is_between-2.branch [
      | then-is_between-2 third ↦ elim c.if-is_between.branch [
        | then-is_between second ↦ simp (
          tested (pos 0) start.hour (pos 23) (hour_fits s) c.is_between.ensures ∙ second.if-is_between.true,
          tested (pos 0) start.minute (pos 59) (minute_fits s) second.is_between-then-is_between.ensures ∙ sym second.value-is ∙ third.if-is_between-2.true,
          tested (pos 0) start.second (pos 59) (second_fits s) third.is_between-then-is_between-2.ensures ∙ sym third.value-is ∙ c.if-is_between-3.false,
        ) c.if-is_between-3.false
        | else-is_between second ↦ cc
      ]
      | else-is_between-2 third ↦ elim c.if-is_between.branch [
        | then-is_between second ↦ simp (
          tested (pos 0) start.hour (pos 23) (hour_fits s) c.is_between.ensures ∙ second.if-is_between.true,
          tested (pos 0) start.minute (pos 59) (minute_fits s) second.is_between-then-is_between.ensures ∙ sym second.value-is ∙ third.if-is_between-2.false,
        ) c.if-is_between-3.false
        | else-is_between second ↦ simp (tested (pos 0) start.hour (pos 23) (hour_fits s) c.is_between.ensures ∙ second.if-is_between.false) c.if-is_between-3.false
      ]
    ]
