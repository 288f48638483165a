-- What std's methods on slices and iterators say, in the words of specs/Line.antt.
use Rattle.std.proofs.Common.{◌≡◌, ℕ, ◌∙◌, ap, refl, Bool, true, false, ◌&&◌, cond, List, [], ◌∷◌, eqb, take}
use Rattle.std.specs.List.{list_all, slice_split, onto_first, starts_with}
use lib.Pointwise.{pointwise}
use Rattle.text.specs.Line.{all, begins, is_negative, longer, minus, space, words}

pub all_is : {A : Type 0} (test : A → Bool) (s : List A) → list_all test s ≡ all test s
unfolding all
all_is test [] = refl
all_is test (entry ∷ rest) = ap (λ (p : Bool). test entry && p) (all_is test rest)

longer_is : (byte : ℕ) (list : List (List ℕ)) → onto_first byte list ≡ longer byte list
unfolding longer
longer_is byte [] = refl
longer_is byte (word ∷ rest) = refl

pub words_are : (s : List ℕ) → slice_split (λ b. eqb b space) s ≡ words s
unfolding words
words_are [] = refl
words_are (byte ∷ rest) =
    (λ i. cond (eqb byte space) ([] ∷ words_are rest i) (onto_first byte (words_are rest i)))
    ∙ ap (cond (eqb byte space) ([] ∷ words rest)) (longer_is byte (words rest))

pub begins_is : (first line : List ℕ) → starts_with eqb line first ≡ begins first line
unfolding begins
begins_is [] line = refl
begins_is (byte ∷ rest) [] = refl
begins_is (byte ∷ rest) (other ∷ line) = ap (λ (p : Bool). eqb byte other && p) (begins_is rest line)

-- a minus sign in front
pub sign_is : (s : List ℕ) → pointwise eqb (take 1 s) (minus ∷ []) ≡ is_negative s
unfolding is_negative
sign_is [] = refl
sign_is (byte ∷ rest) = alone (eqb byte minus)
  where
    alone : (p : Bool) → (p && true) ≡ p
    alone true = refl
    alone false = refl
