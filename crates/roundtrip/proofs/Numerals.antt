-- Numerals that were written are read. Assumes nothing.
use mathlib.Core.Path.{◌≡◌, refl, ap, sym, ◌∙◌}
use mathlib.Core.Bool.{not}
use mathlib.Core.List.{List, [], ◌∷◌, ◌++◌, append_assoc, append-nil}
use Prim.Native.Nat.{ℕ, zero, suc, ◌+◌, ◌-◌, ◌*◌, ◌/◌, ◌%◌, ◌^◌, ◌≤◌, ◌<◌}
use native.Mathlib.Omega.{arith}
use native.Mathlib.Decide.{ℕ_discrete, dec_le}
use native.Mathlib.Nat.{add-zero, mod-lt, mod-add-div', div-lt_iff_lt-mul}
use lib.Dec.{eqb}
use lib.ListN.{length, get_or, take, drop, length-drop, length-append}
use lib.Seq.{drop-cons, drop-drop, drop-append_seam, append_snoc}
use borrow.Author.Tests.{eq-eqb, lt-ltb, le-ltb, le-leb, lt-leb}
use Rattle.counting.specs.Lists.{each, join}
use Rattle.counting.proofs.Tests.{and-off_r}
use Rattle.counting.proofs.Lists.{each_append, join-append}
use Rattle.numerals.specs.Numeral.{last_group, groups, numeral, numerals}
use Rattle.numerals.proofs.Groups.{last_some}
use Rattle.numerals.proofs.Numerals.{got, reading, numerals-on}
use Rattle.jobwriter.specs.Writing.{groups_of, numeral_of}
use Rattle.roundtrip.specs.parts.Reading.{Passing}

-- what stands at a position, and what comes behind it
front : (file : List ℕ) (at x : ℕ) (rest : List ℕ) → drop at file ≡ x ∷ rest → (at < length file) × (get_or file at 0 ≡ x) × (drop (suc at) file ≡ rest)
front file at x rest e =
    let l : at < length file = omega (arith, sym (length-drop at file) ∙ ap length e) in
    let s : get_or file at 0 ∷ drop (suc at) file ≡ x ∷ rest = sym (drop-cons file at 0 l) ∙ e in
    (l, (cc), (cc))

-- what comes behind a list
pub behind : (file : List ℕ) (at : ℕ) (a rest : List ℕ) → drop at file ≡ a ++ rest → drop (at + length a) file ≡ rest
behind file at a rest e = sym (drop-drop (length a) at file) ∙ ap (drop (length a)) e ∙ drop-append_seam a rest

-- a number below 128 is one group
pub groups-one : (n x : ℕ) → x < 128 → groups_of (suc n) x ≡ x ∷ []
unfolding groups_of
groups-one n x l = rw (lt-ltb x 128 l)

-- any other has a group for its lowest seven bits, and then those of the rest
pub groups-on : (n x : ℕ) → 128 ≤ x → groups_of (suc n) x ≡ (128 + x % 128) ∷ groups_of n (x / 128)
unfolding groups_of
groups-on n x l = rw (le-ltb x 128 l)

-- a last group that is the only one or not 0
pub last-good : (value weight x next : ℕ) → (x ≡ 0 → weight ≡ 1) → last_group value weight x next ≡ got (value + x * weight) next
unfolding last_group
last-good value weight x next w = elim (ℕ_discrete x 0) [
  | yes e ↦ rw (and-off_r (eqb x 0) (ap not (eq-eqb weight 1 (w e))))
  | no f ↦ sym (last_some value weight x next f)
]

-- a number at a position
module _ (n : ℕ) (file : List ℕ) (at value weight x : ℕ) (post : List ℕ) (e : drop at file ≡ groups_of (suc n) x ++ post) where
  -- its last group is read
  read-last : x < 128 → (x ≡ 0 → weight ≡ 1) → groups (suc n) file at value weight ≡ got (value + x * weight) (at + length (groups_of (suc n) x))
  unfolding groups
  read-last l w =
      let f = front file at x post (e ∙ ap (λ (a : List ℕ). a ++ post) (groups-one n x l)) in
      rw (groups-one n x l, lt-leb (length file) at f.0, f.1, lt-leb 128 x l)
      (last-good value weight x (suc at) w ∙ ap (got (value + x * weight)) (omega arith))

  module _ (l : 128 ≤ x) where
    -- another group is read
    read_more : groups (suc n) file at value weight ≡ groups n file (suc at) (value + x % 128 * weight) (weight * 128)
    unfolding groups
    read_more =
        let y = 128 + x % 128 in
        let f = front file at y _ (e ∙ ap (λ (a : List ℕ). a ++ post) (groups-on n x l)) in
        let s : 128 + x % 128 - 128 ≡ x % 128 = omega arith in
        rw (lt-leb (length file) at f.0, f.1, le-leb 128 y (omega arith), s)

    -- behind it stands the rest
    read-rest : drop (suc at) file ≡ groups_of n (x / 128) ++ post
    read-rest = (front file at (128 + x % 128) _ (e ∙ ap (λ (a : List ℕ). a ++ post) (groups-on n x l))).2

    -- which is not 0
    rest_some : x / 128 ≡ 0 → ⊥
    rest_some z = omega (arith, mod-add-div' x 128, mod-lt x {m = 128} (omega arith))

    -- the two make up the number
    both-are : got (value + x % 128 * weight + x / 128 * (weight * 128)) (suc at + length (groups_of n (x / 128))) ≡ got (value + x * weight) (at + length (groups_of (suc n) x))
    both-are =
        let v : value + x % 128 * weight + x / 128 * (weight * 128) ≡ value + (x % 128 + x / 128 * 128) * weight = omega arith in
        let p : suc at + length (groups_of n (x / 128)) ≡ at + suc (length (groups_of n (x / 128))) = omega arith in
        rw (v, mod-add-div' x 128, groups-on n x l, p)

-- so is a number of at most n + 1 groups
read-groups : (n : ℕ) (file : List ℕ) (at value weight x : ℕ) (post : List ℕ) → x < 128 ^ suc n → (x ≡ 0 → weight ≡ 1) → drop at file ≡ groups_of (suc n) x ++ post
    → groups (suc n) file at value weight ≡ got (value + x * weight) (at + length (groups_of (suc n) x))
read-groups zero file at value weight x post l w e = read-last 0 file at value weight x post e l w
read-groups (suc n) file at value weight x post l w e = elim (dec_le 128 x) [
  | no h ↦ read-last (suc n) file at value weight x post e (omega arith) w
  | yes h ↦
      read_more (suc n) file at value weight x post e h
      ∙ read-groups n file (suc at) (value + x % 128 * weight) (weight * 128) (x / 128) post ((div-lt_iff_lt-mul (omega arith)).1 (omega arith))
      (λ z. absurd (rest_some (suc n) file at value weight x post e h z)) (read-rest (suc n) file at value weight x post e h)
      ∙ both-are (suc n) file at value weight x post e h
]

-- a numeral that was written is read
pub numeral-at : (file : List ℕ) (at x : ℕ) (post : List ℕ) → x < 2097152 → drop at file ≡ numeral_of x ++ post → numeral file at ≡ got x (at + length (numeral_of x))
unfolding numeral numeral_of
numeral-at file at x post l e =
    let v : 0 + x * 1 ≡ x = omega arith in
    read-groups 2 file at 0 1 x post l (λ _. refl) e ∙ ap (λ (y : ℕ). got y (at + length (groups_of 3 x))) v

-- numerals that were written are read
pub numerals-at : (bad : List ℕ → ℕ → ℕ) (xs file : List ℕ) (at : ℕ) (before post : List ℕ) → Passing bad before xs → drop at file ≡ join (each numeral_of xs) ++ post
    → numerals bad (length xs) file at before ≡ reading (before ++ xs) (at + length (join (each numeral_of xs)))
unfolding each join
numerals-at bad [] file at before post p e = unfold numerals in rw (append-nil before, add-zero at)
numerals-at bad (x ∷ xs) file at before post p e =
    let rest = join (each numeral_of xs) in
    let e' : drop at file ≡ numeral_of x ++ (rest ++ post) = e ∙ append_assoc (numeral_of x) rest post in
    let s : before ++ x ∷ [] ++ xs ≡ before ++ x ∷ xs = append_snoc before x xs in
    let d : at + length (numeral_of x) + length rest ≡ at + length (numeral_of x ++ rest) = omega (arith, length-append (numeral_of x) rest) in
    let q : bad before x ≡ 0 = rw append-nil at (p 0 (omega arith)).1 in
    numerals-on file at bad (length xs) before x (at + length (numeral_of x)) (sym (numeral-at file at x (rest ++ post) (p 0 (omega arith)).0 e')) q
    ∙ numerals-at bad xs file (at + length (numeral_of x)) (before ++ x ∷ []) post
    (λ k l. let r = p (suc k) (omega arith) in (r.0, rw (append_snoc before x (take k xs)) r.1)) (behind file at (numeral_of x) (rest ++ post) e')
    ∙ rw (s, d)

-- numbers after numbers, as they are written
pub numbers-append : (a b rest : List ℕ) → join (each numeral_of (a ++ b)) ++ rest ≡ join (each numeral_of a) ++ (join (each numeral_of b) ++ rest)
numbers-append a b rest = rw (each_append numeral_of a b, join-append (each numeral_of a) (each numeral_of b), append_assoc)

-- the four parts of a file's numbers, as they are written
pub four-parts : (a b c d rest : List ℕ)
    → join (each numeral_of (a ++ (b ++ (c ++ d)))) ++ rest
    ≡ join (each numeral_of a) ++ (join (each numeral_of b) ++ (join (each numeral_of c) ++ (join (each numeral_of d) ++ rest)))
four-parts a b c d rest = rw (numbers-append a (b ++ (c ++ d)) rest, numbers-append b (c ++ d) rest, numbers-append c d rest)

-- what stands behind a front
seam : (pre a post : List ℕ) → drop (length pre) (pre ++ a ++ post) ≡ a ++ post
seam pre a post = ap (drop (length pre)) (append_assoc pre a post) ∙ drop-append_seam pre (a ++ post)

-- a numeral behind a front
pub read-numeral : (x : ℕ) (pre post : List ℕ) → x < 2097152
    → numeral (pre ++ numeral_of x ++ post) (length pre) ≡ record { number = 0; value = x; next = length pre + length (numeral_of x) }
read-numeral x pre post l = numeral-at (pre ++ numeral_of x ++ post) (length pre) x post l (seam pre (numeral_of x) post)

-- numerals behind a front
pub read-numerals : (bad : List ℕ → ℕ → ℕ) (xs pre post before : List ℕ) → Passing bad before xs
    → numerals bad (length xs) (pre ++ join (each numeral_of xs) ++ post) (length pre) before
    ≡ record { number = 0; values = before ++ xs; next = length pre + length (join (each numeral_of xs)) }
read-numerals bad xs pre post before p =
    numerals-at bad xs (pre ++ join (each numeral_of xs) ++ post) (length pre) before post p (seam pre (join (each numeral_of xs)) post)
