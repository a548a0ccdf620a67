-- Laws of filling lists of bytes, and of the marks of the user slots. Assumes nothing.
use mathlib.Core.Path.{◌≡◌, refl, ap, sym, ◌∙◌}
use mathlib.Core.List.{List}
use Prim.Native.Nat.{ℕ, suc, ◌+◌, ◌≤◌, ◌<◌}
use native.Mathlib.Omega.{arith}
use native.Mathlib.Decide.{ℕ_discrete, dec_lt}
use lib.Dec.{ltb}
use lib.ListN.{length, get_or, set, length-set, replicate, length-replicate, get_or-replicate}
use lib.Seq.{get_or-set_same, get_or-set_other}
use borrow.Author.Tests.{lt-ltb, le-ltb}
use Rattle.counting.specs.Tests.{bit}
use Rattle.racks.specs.Racks.{Rack, base, slots, spare_of, is_user}
use Rattle.racks.proofs.Geometry.{rack-is, user-is, user-none, end_le, spare-is, spare-end}
use Rattle.entries.specs.parts.Marks.{FilledFrom, Cleared, UsersMarked}

pub between_none : (low value : ℕ) (t : List ℕ) → FilledFrom low low value t t
between_none low value t = record { inside = λ g l h. absurd (omega arith); below = λ g h. refl; above = λ g h l. refl; long = refl }

pub between_more : (low g value : ℕ) (before t : List ℕ) → low ≤ g → g < length t → FilledFrom low g value before t → FilledFrom low (g + 1) value before (set t g value)
between_more low g value before t l h b =
    record {
      inside = λ k m m'.
          elim (ℕ_discrete k g) [
            | yes e ↦ rw e (get_or-set_same t g value 0 h)
            | no e ↦ get_or-set_other t g k value 0 e ∙ b.inside k m (omega arith)
          ];
      below = λ k m. get_or-set_other t g k value 0 (λ e. omega arith) ∙ b.below k m;
      above = λ k m m'. get_or-set_other t g k value 0 (λ e. omega arith) ∙ b.above k (omega arith) m';
      long = length-set t g value ∙ b.long;
    }

-- a loop that never began, or came to its end
pub between_done : (low g high value : ℕ) (before t : List ℕ) → low ≤ g → high ≤ g → (low < g → g ≤ high) → FilledFrom low g value before t → FilledFrom low high value before t
between_done low g high value before t l h e b =
    record {
      inside = λ k m m'. b.inside k m (omega arith);
      below = b.below;
      above = λ k m m'. elim (dec_lt low g) [ yes q ↦ b.above k (omega (arith, e q)) m' | no q ↦ b.above k (omega arith) m' ];
      long = b.long;
    }

-- the marks of all slots are 0: they were filled so
pub cleared : (before t : List ℕ) → 4096 ≤ length before → FilledFrom 0 4096 0 before t → Cleared t
cleared before t l b = record { marks = λ g m. b.inside g (omega arith) m; long = omega (arith, b.long) }

-- or the list was made so
pub cleared-new : (t : List ℕ) → t ≡ replicate 4096 0 → Cleared t
cleared-new t e = record { marks = λ g m. rw e (get_or-replicate 4096 g 0 0 m); long = omega (arith, ap length e ∙ length-replicate {A = ℕ} 4096 0) }

-- the slots below n have their marks, and there is none behind them
pub record MarkedTo (racks : List Rack) (n : ℕ) (t : List ℕ) : Type 0 where
  pub marks : (g : ℕ) → g < n → get_or t g 0 ≡ bit (is_user racks g)
  pub behind : (g : ℕ) → n ≤ g → g < 4096 → get_or t g 0 ≡ 0

module _ (racks : List Rack) where
  pub marked-none : (t : List ℕ) → Cleared t → MarkedTo racks 0 t
  marked-none t c = record { marks = λ g l. absurd (omega arith); behind = λ g l h. c.marks g h }

  -- one rack more
  module _ (small : slots racks ≤ 4096) (p low high : ℕ) (l : p < length racks) (el : low ≡ base racks p) (eh : high ≡ base racks (suc p)) where
    -- a slot of rack p is a user slot if it lies before the spares
    pub user-here : (g : ℕ) → low ≤ g → g < high → is_user racks g ≡ ltb g (spare_of racks p)
    user-here g m m' =
        user-is racks g (omega (arith, end_le racks p l)) ∙ ap (λ (q : ℕ). ltb g (spare_of racks q)) (rack-is racks p g l (omega arith) (omega arith))

    pub marked_more : (spare : ℕ) (before t : List ℕ) → spare ≡ spare_of racks p → MarkedTo racks low before → FilledFrom low spare 1 before t → MarkedTo racks high t
    marked_more spare before t es f b = record { marks = marks; behind = behind }
      where
        marks : (g : ℕ) → g < high → get_or t g 0 ≡ bit (is_user racks g)
        marks g h = elim (dec_lt g low) [
          | yes m ↦ b.below g m ∙ f.marks g m
          | no m ↦
              let r : is_user racks g ≡ ltb g (spare_of racks p) = user-here g (omega arith) h in
              elim (dec_lt g spare) [
                | yes k ↦ rw (r, lt-ltb g (spare_of racks p) (omega arith)) (b.inside g (omega arith) k)
                | no k ↦ rw (r, le-ltb g (spare_of racks p) (omega arith)) (b.above g (omega arith) (omega arith) ∙ f.behind g (omega arith) (omega (arith, end_le racks p l)))
              ]
        ]

        behind : (g : ℕ) → high ≤ g → g < 4096 → get_or t g 0 ≡ 0
        behind g m h =
            let a : low ≤ g = omega (arith, spare-is racks p, spare-end racks p) in
            b.above g (omega (arith, spare-end racks p)) a ∙ f.behind g a h

  -- all racks are done
  pub marked_all : (t : List ℕ) (n : ℕ) → n ≡ slots racks → 4096 ≤ length t → MarkedTo racks n t → UsersMarked racks t
  marked_all t n e long k =
      record {
        marks = λ g l. elim (dec_lt g n) [ yes h ↦ k.marks g h | no h ↦ k.behind g (omega arith) l ∙ sym (ap bit (user-none racks g (omega arith))) ];
        long = long;
      }
