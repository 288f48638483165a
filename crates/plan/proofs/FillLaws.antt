-- A buffer of a day's minutes that is filled from the front with what a function gives, and is otherwise as it was.
use mathlib.Core.List.{List, ◌++◌}
use mathlib.Core.Path.{◌∙◌, ◌≡◌, refl}
use Prim.Native.Nat.{◌+◌, ◌<◌, ℕ}
use native.Mathlib.Omega.{arith}
use lib.ListN.{drop, length, length-set, set, take}
use Rattle.day.proofs.CurveLaws.{filled_next, filled_none, front_and_rest, rest_next}
use Rattle.day.specs.Curve.{each_below, minutes}

pub record Filled {A : Type 0} (f : ℕ → A) (before now : List A) (n : ℕ) : Type 0 where
  pub whole : length now ≡ minutes
  pub front : take n now ≡ each_below f n
  pub rest : drop n now ≡ drop n before

module _ {A : Type 0} (f : ℕ → A) (before : List A) where
  pub nothing_yet : length before ≡ minutes → Filled f before before 0
  nothing_yet whole = record { whole = whole; front = filled_none f before; rest = refl }

  pub one_more : {now : List A} {n : ℕ} {v : A} → Filled f before now n → n < minutes → v ≡ f n → Filled f before (set now n v) (n + 1)
  one_more {now} {n} {v} so_far h is =
      record {
        whole = length-set now n v ∙ so_far.whole;
        front = filled_next f now n (omega (arith, so_far.whole)) so_far.front is;
        rest = rest_next before now n so_far.rest v;
      }

  pub in_all : {now : List A} {n : ℕ} → Filled f before now n → now ≡ each_below f n ++ drop n before
  in_all {now} {n} all = front_and_rest before now n all.rest all.front
