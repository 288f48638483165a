-- `lines::answers::answer_chunk` meets its contract. The invariant: the bytes so far are answered.
use mathlib.Core.List.{List, [], ◌∷◌, ◌++◌}
use mathlib.Core.Path.{◌∙◌, ◌≡◌, ap, refl, subst, sym}
use Prim.Native.Nat.{◌+◌, ◌<◌, ℕ}
use native.Mathlib.Numerals.{add-one}
use native.Mathlib.Omega.{arith}
use lib.ListN.{get_or, length, take}
use lib.Seq.{length-take-le, take_all, take-suc}
use Rattle.lines.specs.Lines.{Answered}
use Rattle.lines.proofs.AnswerLaws.{answered_more, answered_none}
use Rattle.lines.proofs.answers.answer_chunk.Goals as goal

taken_more : (s : List ℕ) (i : ℕ) → i < length s → take i s ++ (get_or s i 0 ∷ []) ≡ take (i + 1) s
taken_more s i h = sym (ap (λ (n : ℕ). take n s) (add-one i) ∙ take-suc s i 0 h)

pub loop-byte-init : goal.loop-byte-init
loop-byte-init c = (refl, answered_none c.args.form c.args.line c.args.out.now)

pub step-turn-requires : goal.step-turn-requires
step-turn-requires c =
    omega (arith, c.loop-byte.invariant.1.used_within, length-take-le c.loop-byte.byte-index c.args.chunk.now (omega arith), c.requires, c.loop-byte.invariant.0)

pub loop-byte-preserved : goal.loop-byte-preserved
loop-byte-preserved c =
    let k = c.step-turn in
    let chunk = c.args.chunk.now in (
      k.ensures.same_room ∙ c.loop-byte.invariant.0,
      subst (λ (part : List ℕ). Answered c.args.form c.args.line part k.new.out k.result) (taken_more chunk c.loop-byte.byte-index c.loop-byte-test.true)
          (answered_more c.loop-byte.invariant.1 k.ensures),
    )

pub returns : goal.returns
returns c =
    subst (λ (part : List ℕ). Answered c.args.form c.args.line part c.loop-byte.out c.loop-byte.turn) (take_all c.loop-byte.byte-index c.args.chunk.now c.loop-byte-test.false) c.loop-byte.invariant.1
