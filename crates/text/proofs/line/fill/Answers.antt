-- `text::line::fill` meets its contract. The invariant: `Reading`, as far as the words go that `split` has given.
use Rattle.std.proofs.Common.{◌≡◌, ◌∙◌, ap, arith, refl, rules, subst, sym, tests, of_calls, ℕ, ◌<◌, List, [], ◌∷◌, eqb, get_or, length, length-append, length-set, w64, of_z, to_z}
use Rattle.std.proofs.lemmas.Iterator.Consumers.{YieldsList-at, YieldsList-end, YieldsList-turn}
use Rattle.std.proofs.lemmas.Iterator.Splits.{YieldsList-from_slice_split}
use Rattle.numbers.proofs.Machine.{passed}
use Rattle.text.specs.Line.{line_numbers, space, words}
use Rattle.text.proofs.LineLaws.{number_wider}
use Rattle.text.proofs.Reading.{all_read, begun, no_number, one_more, too_few, too_many}
use Rattle.text.proofs.StdLaws.{words_are}
use Rattle.text.proofs.line.fill.Goals as goal
use Rattle.text.proofs.line.fill.Goals.{At-loop-word, In-None, In-Some, then-found-values-via-then-found-values, then-found-values-via-else-found-values+then-not-is_number}

-- the word that the turn is at
module _ (c : In-Some) where
  abbrev word : List ℕ
  word = c.in-Some.word.now

  here : (c.loop-word.found < length (words c.args.line.now)) × (word ≡ get_or (words c.args.line.now) c.loop-word.found word)
  here =
      let line = c.args.line.now in
      let s = c.split-word-items.ensures in
      subst (λ (n : ℕ). (n < length (words line)) × (word ≡ get_or (words line) n word)) (sym c.loop-word.invariant.2)
      (subst (λ (list : List (List ℕ)). (length c.loop-word.yielded < length list) × (word ≡ get_or list (length c.loop-word.yielded) word)) (words_are line)
      (YieldsList-turn (YieldsList-at c.into_iter-word-iterator.ensures.into_iter_gives (YieldsList-from_slice_split _ (λ b. eqb b space) line s.rest s.done s.closure (λ x b q k. search (rules, tests))))
      c.loop-word.yielded c.loop-word.word-iterator c.loop-word.yielded_by c.next.result c.next.new.self c.in-Some.word c.in-Some.is c.next.ensures.steps))

-- all of them were found
module _ (c : In-None) where
  none_left : c.loop-word.found ≡ length (words c.args.line.now)
  none_left =
      let line = c.args.line.now in
      let s = c.split-word-items.ensures in
      c.loop-word.invariant.2
      ∙ (YieldsList-end (YieldsList-at c.into_iter-word-iterator.ensures.into_iter_gives (YieldsList-from_slice_split _ (λ b. eqb b space) line s.rest s.done s.closure (λ x b q k. search (rules, tests))))
      c.loop-word.yielded c.loop-word.word-iterator c.loop-word.yielded_by c.next.result c.next.new.self c.in-None.is c.next.ensures.steps).1
      ∙ ap length (words_are line)

pub loop-word-init : goal.loop-word-init
loop-word-init c = (search of_calls, search of_calls, refl, refl, begun c.args.line.now c.args.most c.args.values.now)

-- the slice keeps its length
module _ (c : At-loop-word) where
  same_count : line_numbers (length c.args.values.now) c.args.most c.args.line.now ≡ line_numbers (length c.loop-word.values) c.args.most c.args.line.now
  same_count = ap (λ (n : ℕ). line_numbers n c.args.most c.args.line.now) (sym c.loop-word.invariant.3)

pub returns-then-found-values : goal.returns-then-found-values
returns-then-found-values c =
    let k = (goal.at.returns-then-found-values c).In-Some in
    let same = same_count (goal.at.In-Some k).At-loop-word in
    elim c.then-found-values.branch [
      | then-found-values-via-then-found-values w ↦ same ∙ too_many c.loop-word.invariant.4 (word k) (here k).0 (here k).1 w.if-found-values.true
      | then-found-values-via-else-found-values+then-not-is_number w ↦
          same ∙ no_number c.loop-word.invariant.4 (word k) (here k).0 (here k).1 (sym w.is_number.ensures ∙ w.if-not-is_number.true)
    ]

pub value-requires : goal.value-requires
value-requires c = number_wider c.args.most 10 c.requires _ (sym c.is_number.ensures ∙ c.if-not-is_number.false)

pub loop-word-preserved : goal.loop-word-preserved
loop-word-preserved c =
    let k = (goal.at.loop-word-preserved c).In-Some in (
      search of_calls,
      search of_calls,
      omega (arith, c.loop-word.invariant.2, length-append c.loop-word.yielded (c.in-Some.word ∷ [])),
      length-set c.loop-word.values c.loop-word.found (to_z w64 (of_z w64 c.value.result)) ∙ c.loop-word.invariant.3,
      one_more c.loop-word.invariant.4 (word k) (here k).0 (here k).1 (sym c.is_number.ensures ∙ c.if-not-is_number.false) (omega (arith, c.loop-word.invariant.4.within, c.if-found-values.false))
          (to_z w64 (of_z w64 c.value.result)) (passed c.value.type_inv c.value.ensures),
    )

pub returns-then-found-values-2 : goal.returns-then-found-values-2
returns-then-found-values-2 c =
    let k = (goal.at.returns-then-found-values-2 c).In-None in
    same_count (goal.at.In-None k).At-loop-word ∙ too_few c.loop-word.invariant.4 (none_left k) c.if-found-values-2.true

pub returns-else-found-values-2 : goal.returns-else-found-values-2
returns-else-found-values-2 c =
    let k = (goal.at.returns-else-found-values-2 c).In-None in
    same_count (goal.at.In-None k).At-loop-word ∙ all_read c.loop-word.invariant.4 (none_left k) c.if-found-values-2.false
