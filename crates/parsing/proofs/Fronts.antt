-- Laws of the front of a file: N, B and the m_p. Assumes nothing.
use mathlib.Core.Path.{◌≡◌, ap, sym, ◌∙◌}
use mathlib.Core.Bool.{Bool, true, false, not}
use mathlib.Core.List.{List, [], ◌∷◌}
use Prim.Native.Nat.{ℕ, ◌≤◌}
use native.Mathlib.Omega.{arith}
use native.Mathlib.Decide.{ℕ_discrete}
use lib.Dec.{eqb, ltb}
use lib.ListN.{length, get_or, take}
use lib.Seq.{length-take-le}
use borrow.Author.Tests.{eq-eqb, ne_eqb, lt-ltb, le-ltb}
use Rattle.counting.specs.Tests.{◌or◌}
use Rattle.counting.specs.Checks.{first}
use Rattle.counting.proofs.Checks.{first-here, first-later}
use Rattle.racks.specs.Racks.{of_caps}
use Rattle.racks.specs.Numbers.{bad_count, bad_bytes, rack_checks}
use Rattle.racks.proofs.Caps.{length-caps, count-good, checks-0}
use Rattle.std.specs.Prelude.{Result, Ok, Err}
use Rattle.answers.specs.Answers.{placeless, refusal_of}
use Rattle.answers.specs.declared.Refusal as given
use Rattle.answers.proofs.Answers.{refuses}
use Rattle.numerals.specs.Numeral.{refused, Numerals, numerals}
use Rattle.parsing.specs.File.{wrong_n, wrong_b, wrong_m, read_n, read_b, read_m, file_racks, file_bytes}
use Rattle.parsing.specs.parts.Parsing.{taken_of, CapsRead, head_checks, HeadRead}
use Rattle.numerals.specs.parts.Bounds.{checked_numeral, ranged, outside, place_with}
use Rattle.parsing.specs.declared.parts.Head.{Head}
use Rattle.numerals.proofs.Numerals.{got, stopped, reading, alone, passed-good, numerals-go, numerals-stop, inside, bare-place}

-- one numeral
module _ (file : List ℕ) (at : ℕ) (bad : List ℕ → ℕ → ℕ) (f : ℕ → ℕ) (same : (v : ℕ) → bad [] v ≡ f v) where
  one_value : (v p : ℕ) → got v p ≡ checked_numeral f file at → numerals bad 1 file at [] ≡ reading (v ∷ []) p
  unfolding numerals
  one_value v p e = numerals-go file at bad 0 [] f v p e (same v ∙ passed-good file at f v p e)

  one-refused : (n : ℕ) → refused n ≡ checked_numeral f file at → numerals bad 1 file at [] ≡ stopped n
  one-refused n e = numerals-stop file at bad 0 [] f (λ v _. same v) n e

-- 0 is what is below 1
below_one : (v : ℕ) → eqb v 0 ≡ ltb v 1
below_one v = elim (ℕ_discrete v 0) [
  | yes e ↦ eq-eqb v 0 e ∙ sym (lt-ltb v 1 (omega arith))
  | no f ↦ ne_eqb v 0 f ∙ sym (le-ltb v 1 (omega arith))
]

same_N : (v : ℕ) → wrong_n [] v ≡ outside 1 64 1 v
unfolding wrong_n outside bad_count
same_N v = ap (λ (b : Bool). first ((b or ltb 64 v, 1) ∷ [])) (below_one v)

same-B : (v : ℕ) → wrong_b [] v ≡ outside 1 256 2 v
unfolding wrong_b outside bad_bytes
same-B v = ap (λ (b : Bool). first ((b or ltb 256 v, 2) ∷ [])) (below_one v)

-- a refusal that is known, and one that is none
is_some : (a b : ℕ) → a ≡ b → (b ≡ 0 → ⊥) → not (eqb a 0) ≡ true
is_some a b e f = ap not (ne_eqb a 0 (λ z. f (sym e ∙ z)))

none : (a : ℕ) → a ≡ 0 → not (eqb a 0) ≡ false
none a e = ap not (eq-eqb a 0 e)

module _ (file : List ℕ) (caps : List ℕ) (long : length caps ≡ 64) where
  -- N is refused
  pub head_N : (e : given.Refusal) → refused (refusal_of e).number ≡ ranged 1 64 1 file 0 → (refusal_of e).place ≡ place_with (placeless 1) (refusal_of e).number → HeadRead file (Err e) caps
  unfolding ranged read_n head_checks
  head_N e r q =
      let n = (refusal_of e).number in
      let k = ap (λ (x : Numerals). x.number) (one-refused file 0 wrong_n (outside 1 64 1) same_N n r) in
      record {
        refusal_is = bare-place e 1 q ∙ ap placeless (sym (first-here _ _ _ (is_some _ n k (refuses e)) ∙ k));
        headed = record {};
        long = long;
      }

  -- N is read
  module _ (n p : ℕ) (e : got n p ≡ ranged 1 64 1 file 0) where
    is_N : read_n file ≡ reading (n ∷ []) p
    unfolding ranged read_n
    is_N = one_value file 0 wrong_n (outside 1 64 1) same_N n p e

    -- it is 1 to 64
    pub N-small : (1 ≤ n) × (n ≤ 64)
    unfolding ranged
    N-small = inside 1 64 1 n (omega arith) (passed-good file 0 (outside 1 64 1) n p e)

    past_N : not (eqb (read_n file).number 0) ≡ false
    past_N = none _ (ap (λ (x : Numerals). x.number) is_N)

    -- B is refused
    pub head-B : (x : given.Refusal) → refused (refusal_of x).number ≡ ranged 1 256 2 file p → (refusal_of x).place ≡ place_with (placeless 2) (refusal_of x).number → HeadRead file (Err x) caps
    unfolding ranged read_b head_checks
    head-B x r q =
        let n = (refusal_of x).number in
        let k : (read_b file).number ≡ n =
        ap (λ (y : Numerals). (numerals wrong_b 1 file y.next []).number) is_N ∙ ap (λ (y : Numerals). y.number) (one-refused file p wrong_b (outside 1 256 2) same-B n r) in
        record {
          refusal_is = bare-place x 2 q ∙ ap placeless (sym (first-later _ _ _ past_N ∙ first-here _ _ _ (is_some _ n k (refuses x)) ∙ k));
          headed = record {};
          long = long;
        }

    -- B is read
    module _ (b q : ℕ) (e' : got b q ≡ ranged 1 256 2 file p) (after : List ℕ) where
      is-B : read_b file ≡ reading (b ∷ []) q
      unfolding ranged read_b
      is-B = ap (λ (x : Numerals). numerals wrong_b 1 file x.next []) is_N ∙ one_value file p wrong_b (outside 1 256 2) same-B b q e'

      is_M : (t : Result ℕ given.Refusal) → CapsRead file q n t after → read_m file ≡ taken_of t (take n after)
      unfolding read_m
      is_M t c = ap (λ (x : Numerals). numerals wrong_m (get_or x.values 0 0) file (read_b file).next []) is_N ∙ ap (λ (x : Numerals). numerals wrong_m n file x.next []) is-B ∙ sym c.is

      -- the number of the front is that of the m_p
      front-number : first (head_checks file) ≡ (read_m file).number
      unfolding head_checks
      front-number =
          first-later _ _ _ past_N ∙ first-later _ _ _ (none _ (ap (λ (x : Numerals). x.number) is-B)) ∙ alone (read_m file).number

      -- the m_p are refused
      pub head-M_refused : (x : given.Refusal) → CapsRead file q n (Err x) after → HeadRead file (Err x) after
      unfolding taken_of
      head-M_refused x c =
          record {
            refusal_is = c.bare ∙ ap placeless (sym (front-number ∙ ap (λ (y : Numerals). y.number) (is_M (Err x) c)));
            headed = record {};
            long = c.long;
          }

      module _ (next : ℕ) (c : CapsRead file q n (Ok next) after) where
        abbrev made : Head
        made = record { racks = n; bytes = b; next = next }

        values_M : (read_m file).values ≡ take n after
        unfolding taken_of
        values_M = ap (λ (x : Numerals). x.values) (is_M (Ok next) c)

        racks_M : file_racks file ≡ of_caps (take n after)
        unfolding file_racks
        racks_M = ap of_caps values_M

        length_front : length (of_caps (take n after)) ≡ n
        length_front = length-caps (take n after) ∙ length-take-le n after (omega (arith, N-small, c.long))

        good_M : first (rack_checks (file_racks file)) ≡ 0
        good_M =
            rw racks_M (sym (checks-0 (of_caps (take n after)) (count-good (of_caps (take n after)) (λ y. omega (arith, length_front, N-small)) (omega (arith, length_front, N-small))) c.good))

        -- the m_p are done
        pub head_M : HeadRead file (Ok made) after
        unfolding taken_of file_bytes ranged
        head_M =
            record {
              refusal_is = ap placeless (sym (front-number ∙ ap (λ (y : Numerals). y.number) (is_M (Ok next) c)));
              headed = record {
                racks-are = sym (ap length racks_M ∙ length_front);
                few = N-small.1;
                bytes-are = sym (ap (λ (x : Numerals). get_or x.values 0 0) is-B);
                small = (inside 1 256 2 b (omega arith) (passed-good file p (outside 1 256 2) b q e')).1;
                next-is = sym (ap (λ (x : Numerals). x.next) (is_M (Ok next) c));
                caps-are = sym values_M;
                good = good_M;
              };
              long = c.long;
            }
