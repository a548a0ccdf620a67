-- A walk as a loop makes it: what has been passed, and what is to come. Assumes nothing.
use mathlib.Core.Path.{◌≡◌, refl, sym, ap, ◌∙◌}
use mathlib.Core.Logic.{◌≢◌, inl, inr}
use mathlib.Core.List.{List, [], ◌∷◌, ◌++◌, append_assoc, append-nil}
use Prim.Native.Nat.{ℕ, suc, ◌+◌, ◌-◌, ◌≤◌, ◌<◌}
use native.Mathlib.Omega.{arith}
use native.Mathlib.Decide.{ℕ_discrete}
use lib.ListN.{length, get_or, take, set, length-append, length-set}
use lib.Seq.{get_or-set_same, get_or-set_other}
use borrow.Author.Tests.{eq-eqb, ne_eqb}
use Rattle.counting.specs.Tests.{◌or◌}
use Rattle.counting.specs.Lists.{among, last}
use Rattle.counting.proofs.Members.{among-append}
use Rattle.counting.proofs.Tests.{by-test, pick_same}
use Rattle.racks.specs.Limits.{FREE}
use Rattle.racks.specs.Table.{dest}
use Rattle.racks.proofs.Table.{read-dest}
use Rattle.factors.specs.Copies.{following, onward}
use Rattle.factors.specs.parts.Chains.{Chained}
use Rattle.factors.specs.parts.Walks.{Sources, Marked, Passed, MarkedOn, MarkedBack, hand_end}
use Rattle.factors.proofs.Walks.{Ends, after_stop, after-go}
use Rattle.factors.proofs.Chains.{onward-ends, onward-short}
use Rattle.factors.proofs.Sourced.{inverse-onward}

last_snoc : (x y : ℕ) (l : List ℕ) → last x (l ++ y ∷ []) ≡ y
unfolding last
last_snoc x y [] = refl
last_snoc x y (z ∷ l) = last_snoc z y l

-- n of the S steps from s are made, to x
pub record Walking (f : ℕ → ℕ) (s S n x : ℕ) : Type 0 where
  pub past : List ℕ
  pub all : following f s S s ≡ past ++ following f s (S - n) x
  pub count : length past ≡ n
  pub here : x ≡ last s past

module _ (f : ℕ → ℕ) (s S : ℕ) where
  -- no step is made
  pub walk_begin : Walking f s S 0 s
  unfolding last
  walk_begin = let e : S - 0 ≡ S = omega arith in record { past = []; all = rw e; count = refl; here = refl }

  -- a step more
  pub walk_more : (n x y : ℕ) → Walking f s S n x → n < S → y ≡ f x → y ≢ FREE → y ≢ s → Walking f s S (n + 1) y
  walk_more n x y w l e p q =
      let i : S - n ≡ suc (S - (n + 1)) = omega arith in
      let go = after-go f s (S - (n + 1)) x (λ u. elim u [ inl v ↦ p (e ∙ v) | inr v ↦ q (e ∙ v) ]) in
      record {
        past = w.past ++ y ∷ [];
        all = w.all ∙ rw (i, go, ← e) (sym (append_assoc w.past (y ∷ []) (following f s (S - (n + 1)) y)));
        count = omega (arith, length-append w.past (y ∷ []), w.count);
        here = sym (last_snoc s y w.past);
      }

  -- the walk ends here
  pub walk-stop : (n x : ℕ) (w : Walking f s S n x) → Ends s (f x) → following f s S s ≡ w.past
  walk-stop n x w e = w.all ∙ rw (after_stop f s (S - n) x e) (append-nil w.past)

  -- all steps are made
  pub walk-out : (n x : ℕ) (w : Walking f s S n x) → S ≤ n → following f s S s ≡ w.past
  unfolding following
  walk-out n x w l = let z : S - n ≡ 0 = omega arith in w.all ∙ rw z (append-nil w.past)

-- marks
module _ (mark : ℕ) where
  -- one slot is marked
  pub mark-one : (seen : List ℕ) (x : ℕ) → x < length seen → Marked mark (x ∷ []) seen (set seen x mark)
  unfolding among ◌or◌
  mark-one seen x h = record {
    marks = λ v. elim (ℕ_discrete v x) [
      | yes e ↦ rw (e, eq-eqb x x refl) (get_or-set_same seen x mark 0 h)
      | no q ↦ rw (ne_eqb v x q) (get_or-set_other seen x v mark 0 q)
    ];
    long = length-set seen x mark;
  }

  -- slots marked, and then others
  pub mark-more : (a b : List ℕ) (s t u : List ℕ) → Marked mark a s t → Marked mark b t u → Marked mark (a ++ b) s u
  unfolding ◌or◌
  mark-more a b s t u m n = record {
    marks = λ v. n.marks v ∙ rw (m.marks v, among-append v a b) (by-test (among v a) (λ e. rw e (pick_same (among v b) mark)) (λ e. rw e));
    long = n.long ∙ m.long;
  }

  -- no slot is
  pub mark-none : (seen : List ℕ) → Marked mark [] seen seen
  unfolding among
  mark-none seen = record { marks = λ v. refl; long = refl }

-- a walk by a table from slot h, as the code marks the slots behind h
pub record Marking (table : List ℕ) (mark h n x : ℕ) (before after : List ℕ) : Type 0 where
  pub walking : Walking (dest table) h (length table) n x
  pub marked : Marked mark walking.past before after
  pub here : x < length table

module _ {table : List ℕ} (ok : Chained table) (mark h : ℕ) (low : h < length table) (before : List ℕ) where
  -- at first none is
  pub marking_begin : Marking table mark h 0 h before before
  unfolding walk_begin
  marking_begin = record { walking = walk_begin (dest table) h (length table); marked = mark-none mark before; here = low }

  module _ (n x : ℕ) (seen : List ℕ) (m : Marking table mark h n x before seen) where
    -- a slot more is marked
    pub marking-more : (y : ℕ) → n < length table → y ≡ get_or table x 0 → y ≢ FREE → y ≢ h → length before ≡ 4096 → Marking table mark h (n + 1) y before (set seen y mark)
    unfolding walk_more
    marking-more y l e p q long =
        let i : y ≡ dest table x = e ∙ read-dest table x m.here in
        let b : y < length table = rw i (ok.below x (λ u. p (i ∙ u))) in
        record {
          walking = walk_more (dest table) h (length table) n x y m.walking l i p q;
          marked = mark-more mark m.walking.past (y ∷ []) before seen (set seen y mark) m.marked (mark-one mark seen y (omega (arith, m.marked.long, ok.small)));
          here = b;
        }

    -- the walk ends here
    pub marking-stop : Ends h (get_or table x 0) → Passed table mark h before x n (get_or table x 0) seen
    unfolding onward
    marking-stop e =
        let i = read-dest table x m.here in
        let w : m.walking.past ≡ onward table h = sym (walk-stop (dest table) h (length table) n x m.walking (rw i at e)) in
        let j : x ≡ last h (onward table h) = m.walking.here ∙ ap (last h) w in
        record { head-is = j; left_is = sym m.walking.count ∙ ap length w; end_is = i ∙ ap (dest table) j; marked = rw w at m.marked }

    -- as many steps as there are slots are never made
    pub marking_never : length table ≤ n → ⊥
    unfolding onward
    marking_never l = omega (arith, ap length (walk-out (dest table) h (length table) n x m.walking l) ∙ m.walking.count, onward-short ok h low)

-- the way on from h: h is marked first
module _ {places : List ℕ} (ok : Chained places) (mark h : ℕ) (low : h < length places) (start seen : List ℕ) (long : length start ≡ 4096) (head left end : ℕ) (p : Passed places mark h (set start h mark) head left end seen) where
  on-marked : Marked mark (h ∷ onward places h) start seen
  on-marked = mark-more mark (h ∷ []) (onward places h) start (set start h mark) seen (mark-one mark start h (omega (arith, ok.small))) p.marked

  -- it ends at a free slot
  pub on-free : end ≡ FREE → MarkedOn places mark h start h left FREE seen
  on-free e = record { head-is = refl; left_is = p.left_is; ends = inr (sym p.end_is ∙ e, refl); marked = on-marked }

  -- it comes to h again
  pub on-turn : end ≢ FREE → (last hand : ℕ) → last ≡ head → hand ≡ hand_end last left → MarkedOn places mark h start h left hand seen
  on-turn q last hand i e = record {
    head-is = refl;
    left_is = p.left_is;
    ends = elim (onward-ends ok h low) [ inl u ↦ absurd (q (p.end_is ∙ u)) | inr u ↦ inl (u, e ∙ ap (λ (l : ℕ). hand_end l left) (i ∙ p.head-is)) ];
    marked = on-marked;
  }

-- the way back from k: on, by the inverse
pub back-passed : {places noted : List ℕ} (ok : Chained places) (s : Sources places noted) (mark k : ℕ) → k < length places → (start seen : List ℕ) (head left end : ℕ)
    → Passed (take (length places) noted) mark k start head left end seen → MarkedBack places mark k start head left seen
back-passed ok s mark k low start seen head left end p =
    let e = inverse-onward ok s k low in
    record { head-is = p.head-is ∙ ap (last k) e; left_is = p.left_is ∙ ap length e; marked = rw e at p.marked }
