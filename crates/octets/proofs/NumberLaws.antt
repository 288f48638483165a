-- One number in so many octets, over every width: each way and back, its size, and how a loop reads and stores it.
use mathlib.Core.Bool.{Bool, ◌&&◌, cond, false, true}
use mathlib.Core.List.{List, [], ◌++◌, ◌∷◌}
use mathlib.Core.Path.{◌∙◌, ◌≡◌, ap, ap₂, refl, subst, sym}
use Prim.Native.Nat.{◌%◌, ◌*◌, ◌+◌, ◌-◌, ◌/◌, ◌<◌, ◌^◌, ◌≤◌, suc, zero, ℕ}
use native.Mathlib.Nat.{div-div-eq-div-mul, div-lt_iff_lt-mul, div-one, pow-suc, pow-succ', pow-zero}
use native.Mathlib.Numerals.{add-one}
use native.Mathlib.Omega.{arith}
use lib.Dec.{ltb}
use lib.IntN.{negsuc, pos, ℤ}
use lib.ListN.{get_or, length, length-append, take}
use lib.Seq.{length-take-le, take_all, take-suc}
use borrow.Author.Tests.{le-ltb, lt-ltb, ltb-true}
use Rattle.text.specs.Line.{all}
use Rattle.text.proofs.LineLaws.{first_of, second_of}
use Rattle.text.proofs.WordLaws.{all_append}
use Rattle.octets.specs.Octets.{big_endian, complement, from_complement, is_octet, number, number_after}
use Rattle.octets.specs.Again.{ComplementAgain, InHalves, NumberAgain, OctetsAgain, SignedAgain}

-- ---- one octet more at the end

number_snoc : (n : ℕ) (s : List ℕ) (octet : ℕ) → number_after n (s ++ (octet ∷ [])) ≡ number_after n s * 256 + octet
unfolding number_after
number_snoc n [] octet = refl
number_snoc n (first ∷ rest) octet = number_snoc (n * 256 + first) rest octet

pub number_again : NumberAgain
unfolding big_endian number_after
number_again zero n h = omega arith
number_again (suc width) n h =
    number_snoc 0 (big_endian width (n / 256)) (n % 256)
    ∙ ap (λ (m : ℕ). m * 256 + n % 256) (number_again width (n / 256) ((div-lt_iff_lt-mul (omega arith)).1 (subst (λ (m : ℕ). n < m) (pow-suc 256 width) h)))
    ∙ whole n
  where
    whole : (n : ℕ) → n / 256 * 256 + n % 256 ≡ n
    whole n = omega arith

pub big_endian_length : (width n : ℕ) → length (big_endian width n) ≡ width
unfolding big_endian
big_endian_length zero n = refl
big_endian_length (suc width) n =
    length-append (big_endian width (n / 256)) ((n % 256) ∷ []) ∙ ap (λ (k : ℕ). k + 1) (big_endian_length width (n / 256)) ∙ add-one width

pub big_endian_octets : (width n : ℕ) → all is_octet (big_endian width n) ≡ true
unfolding big_endian all
big_endian_octets zero n = refl
big_endian_octets (suc width) n =
    all_append is_octet (big_endian width (n / 256)) ((n % 256) ∷ [])
    ∙ ap₂ (λ (p q : Bool). p && (q && true)) (big_endian_octets width (n / 256)) (lt-ltb (n % 256) 256 (omega arith))

-- the first octet, which the loop stores last
pub big_endian_first : (width n : ℕ) → (n / 256 ^ width % 256) ∷ big_endian width n ≡ big_endian (suc width) n
unfolding big_endian
big_endian_first zero n = ap (λ (m : ℕ). (m % 256) ∷ []) (ap (λ (p : ℕ). n / p) (pow-zero 256) ∙ div-one n)
big_endian_first (suc width) n =
    ap (λ (m : ℕ). (m % 256) ∷ (big_endian width (n / 256) ++ ((n % 256) ∷ []))) (ap (λ (p : ℕ). n / p) (pow-succ' 256 width) ∙ sym (div-div-eq-div-mul n 256 (256 ^ width)))
    ∙ ap (λ (s : List ℕ). s ++ ((n % 256) ∷ [])) (big_endian_first width (n / 256))

pub rest_next : (width n : ℕ) → n / 256 ^ width / 256 ≡ n / 256 ^ suc width
rest_next width n = div-div-eq-div-mul n (256 ^ width) 256 ∙ ap (λ (p : ℕ). n / p) (sym (pow-suc 256 width))

pub rest_first : (n : ℕ) → n ≡ n / 256 ^ 0
rest_first n = sym (ap (λ (p : ℕ). n / p) (pow-zero 256) ∙ div-one n)

-- a list by its last octet
module _ (count : ℕ) (s : List ℕ) (l : length s ≡ suc count) where
  by_last : s ≡ take count s ++ (get_or s count 0 ∷ [])
  by_last = sym (take_all (suc count) s (omega arith)) ∙ take-suc s count 0 (omega arith)

  before_length : length (take count s) ≡ count
  before_length = length-take-le count s (omega arith)

  module _ (e : all is_octet s ≡ true) where
    both : (all is_octet (take count s) && all is_octet (get_or s count 0 ∷ [])) ≡ true
    both = sym (all_append is_octet (take count s) (get_or s count 0 ∷ [])) ∙ ap (all is_octet) (sym by_last) ∙ e

    before_octets : all is_octet (take count s) ≡ true
    before_octets = first_of (all is_octet (take count s)) (all is_octet (get_or s count 0 ∷ [])) both

    last_small : get_or s count 0 < 256
    unfolding all
    last_small =
        ltb-true (get_or s count 0) 256
        (first_of (is_octet (get_or s count 0)) true (second_of (all is_octet (take count s)) (all is_octet (get_or s count 0 ∷ [])) both))

  number_last : number s ≡ number (take count s) * 256 + get_or s count 0
  number_last = ap number by_last ∙ number_snoc 0 (take count s) (get_or s count 0)

pub again : (width : ℕ) (s : List ℕ) → length s ≡ width → all is_octet s ≡ true → big_endian width (number s) ≡ s
unfolding big_endian
again zero [] l e = refl
again zero (octet ∷ rest) l e = absurd (omega (arith, l))
again (suc width) s l e =
    let n = number (take width s) in
    let octet = get_or s width 0 in
    ap (λ (m : ℕ). big_endian width (m / 256) ++ ((m % 256) ∷ [])) (number_last width s l)
    ∙ ap₂ (λ (q r : ℕ). big_endian width q ++ (r ∷ [])) (high n octet (last_small width s l e)) (low n octet (last_small width s l e))
    ∙ ap (λ (t : List ℕ). t ++ (octet ∷ [])) (again width (take width s) (before_length width s l) (before_octets width s l e))
    ∙ sym (by_last width s l)
  where
    high : (n b : ℕ) → b < 256 → (n * 256 + b) / 256 ≡ n
    high n b h = omega arith

    low : (n b : ℕ) → b < 256 → (n * 256 + b) % 256 ≡ b
    low n b h = omega arith

pub octets_again : OctetsAgain
octets_again s e = again (length s) s refl e

pub number_small : (width : ℕ) (s : List ℕ) → length s ≡ width → all is_octet s ≡ true → number s < 256 ^ width
unfolding number_after
number_small zero [] l e = omega arith
number_small zero (octet ∷ rest) l e = absurd (omega (arith, l))
number_small (suc width) s l e =
    omega (arith, number_last width s l, last_small width s l e, number_small width (take width s) (before_length width s l) (before_octets width s l e), pow-suc 256 width)

-- ---- a loop that reads

pub none_read : (s : List ℕ) → 0 ≡ number (take 0 s)
unfolding number_after
none_read s = refl

pub one_more_read : (s : List ℕ) (taken : ℕ) → taken < length s → number (take taken s) * 256 + get_or s taken 0 ≡ number (take (taken + 1) s)
one_more_read s taken h =
    sym (number_snoc 0 (take taken s) (get_or s taken 0)) ∙ ap number (sym (ap (λ (n : ℕ). take n s) (add-one taken) ∙ take-suc s taken 0 h))

-- ---- two's complement

pub signed_again : SignedAgain
unfolding complement from_complement
signed_again width (pos n) h = simp (lt-ltb (2 * n) (256 ^ width) h)
signed_again width (negsuc n) h =
    ap (λ (p : Bool). cond p (pos (256 ^ width - suc n)) (negsuc (256 ^ width - suc (256 ^ width - suc n)))) (le-ltb (2 * (256 ^ width - suc n)) (256 ^ width) (omega arith))
    ∙ ap negsuc (back (256 ^ width) n (omega arith))
  where
    back : (m n : ℕ) → suc n ≤ m → m - suc (m - suc n) ≡ n
    back m n h = omega arith

pub complement_again : ComplementAgain
unfolding complement from_complement
complement_again width n h = by_test (ltb (2 * n) (256 ^ width))
  where
    by_test : (p : Bool) → complement width (cond p (pos n) (negsuc (256 ^ width - suc n))) ≡ n
    by_test true = refl
    by_test false = omega arith

pub complement_small : (width : ℕ) (z : ℤ) → InHalves width z → complement width z < 256 ^ width
unfolding complement
complement_small width (pos n) h = omega arith
complement_small width (negsuc n) h = omega arith
