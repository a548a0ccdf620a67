-- The pass that grants the cards: after g slots each target's share has the cards among these that it takes. Assumes nothing.
use mathlib.Core.Path.{◌≡◌, ap, sym, ◌∙◌}
use mathlib.Core.Bool.{true, false}
use mathlib.Core.Logic.{◌≢◌}
use mathlib.Core.List.{List, [], ◌∷◌, ◌++◌}
use Prim.Native.Nat.{ℕ, ◌+◌, ◌*◌, ◌≤◌, ◌<◌}
use native.Mathlib.Omega.{arith}
use native.Mathlib.Nat.{add-zero}
use native.Mathlib.Decide.{ℕ_discrete}
use lib.Dec.{ltb}
use lib.ListN.{length, get_or, set, length-set, length-append}
use lib.Seq.{get_or-set_same, get_or-set_other, set-get_or}
use borrow.Author.Tests.{ltb-true, ltb-false}
use Rattle.counting.specs.Count.{sum}
use Rattle.counting.proofs.Tests.{by-test, off, no_way, both, and_l, and_r}
use Rattle.counting.proofs.Select.{sum_cong}
use Rattle.counting.proofs.Sums.{sum-none, sum-on, sum_le, sum_tight}
use Rattle.racks.specs.Racks.{Rack, slots}
use Rattle.racks.specs.Table.{away, away_to}
use Rattle.racks.specs.parts.Legal.{Legal}
use Rattle.racks.proofs.Away.{to-away}
use Rattle.tables.specs.parts.Tables.{target, away_by, Filled}
use Rattle.tables.proofs.Targets.{target_lt, away_by_lem, sent-to, sent-only, aimed}
use Rattle.plans.specs.Plan.{plan}
use Rattle.shares.specs.parts.Columns.{columns}
use Rattle.shares.specs.parts.Shares.{share_of, start_of, cards_to, Stopped}
use Rattle.shares.specs.parts.Cards.{takes_card, Grantable, CardGranted}
use Rattle.shares.proofs.Columns.{columns_cong, columns-none, columns-long, columns-one}
use Rattle.shares.proofs.Shares.{start_up, start-all, stop_is, stop-few, cards-few, cards-full, cards-off, cards-on, cards-none}

-- after g slots: so many cards are put, each target's in its share, where its next pair is the one behind them
pub record Granting (racks : List Rack) (places before : List ℕ) (g put : ℕ) (nexts lent : List ℕ) : Type 0 where
  pub nexts-are : (p : ℕ) → p < length racks → get_or nexts p 0 ≡ start_of racks places p + length (cards_to racks places g p)
  pub long : length nexts ≡ 64
  pub put_is : put ≡ sum (length racks) (λ p. length (cards_to racks places g p))
  pub list : lent ≡ columns 0 (length racks) (start_of racks places) (cards_to racks places g) before

module _ (racks : List Rack) (places before : List ℕ) where
  -- before the first slot
  pub granting-none : (nexts : List ℕ) → ((p : ℕ) → p < length racks → get_or nexts p 0 ≡ start_of racks places p) → length nexts ≡ 64 → Granting racks places before 0 0 nexts before
  granting-none nexts n l =
      record {
        nexts-are = λ p m. omega (arith, n p m, ap length (cards-none racks places p));
        long = l;
        put_is = sym (sum-none (length racks) _ (λ p _. ap length (cards-none racks places p)));
        list = sym (columns-none 0 (length racks) (start_of racks places) _ before (λ p _. cards-none racks places p));
      }

  module _ {g put : ℕ} {nexts lent : List ℕ} (w : Granting racks places before g put nexts lent) where
    -- the list keeps its length
    pub granting-long : length lent ≡ length before
    granting-long = ap length w.list ∙ columns-long 0 (length racks) (start_of racks places) (cards_to racks places g) before

    -- no more are put than there are pairs
    pub granting-few : put ≤ length (plan racks places)
    unfolding start_of
    granting-few = omega (arith, w.put_is, start-all racks places, sum_le (length racks) (λ p. length (cards_to racks places g p)) (share_of racks places) (λ p _. cards-few racks places g p))

    -- once as many are put as there are pairs, each target has its cards of all slots
    pub granting-done : g ≤ slots racks → put ≡ length (plan racks places) → lent ≡ columns 0 (length racks) (start_of racks places) (cards_to racks places (slots racks)) before
    unfolding start_of
    granting-done l e =
        w.list
        ∙ columns_cong 0 (length racks) (start_of racks places) (cards_to racks places g) (cards_to racks places (slots racks)) before
        (λ p m. sym (cards-full racks places g p (full p m) (slots racks) l))
      where
        full : (p : ℕ) → p < length racks → length (cards_to racks places g p) ≡ share_of racks places p
        full = sum_tight (length racks) (λ p. length (cards_to racks places g p)) (share_of racks places) (λ p _. cards-few racks places g p) (omega (arith, w.put_is, e, start-all racks places))

-- one slot more of a legal table of racks within the limits
module _ (racks : List Rack) (places racking : List ℕ) (v : Legal racks places) (filled : Filled racks racking) (small : slots racks ≤ 4096) (few : length racks ≤ 64)
    (before nexts stops lent : List ℕ) (g put : ℕ) (l : g < slots racks) (s : Stopped racks places stops) (room : 2 * length (plan racks places) ≤ length before)
    (some : 0 < length (plan racks places)) (w : Granting racks places before g put nexts lent) where
  abbrev p : ℕ
  p = target racking places g

  -- its target is a rack
  to_lt : p < length racks
  to_lt = target_lt racks places racking v filled g l

  -- where its next pair stands
  next-is : get_or nexts p 0 ≡ start_of racks places p + length (cards_to racks places g p)
  next-is = w.nexts-are p to_lt

  -- the slot can be looked at
  pub grantable : 4096 ≤ length racking → length (plan racks places) ≤ 4096 → Grantable racking places g nexts stops lent
  grantable wide h =
      let stop = stop-few racks places stops s p to_lt in
      record {
        aims = aimed racks places racking v filled g l small few;
        wide = wide;
        few = omega (arith, next-is, stop_is racks places stops s p to_lt, stop, cards-few racks places g p);
        fits = omega (arith, stop, granting-long racks places before w);
        some = omega (arith, granting-long racks places before w);
        long = w.long;
      }

  -- another target takes nothing of this slot
  others : (q : ℕ) → q ≢ p → cards_to racks places (g + 1) q ≡ cards_to racks places g q
  others q d = cards-off racks places g q (off (λ a. d (sent-only racks places racking v filled g l q a)))

  -- its target takes the card
  granting-on : takes_card racking places g nexts stops ≡ true → Granting racks places before (g + 1) (put + 1) (set nexts p (get_or nexts p 0 + 1)) (set lent (2 * get_or nexts p 0) g)
  unfolding takes_card
  granting-on t =
      let a : away racks places g ≡ true = sym (away_by_lem racks places racking v filled g l) ∙ and_l _ t in
      let c : away_to racks places p g ≡ true = sent-to racks places racking v filled g l a in
      let m : length (cards_to racks places g p) < share_of racks places p = omega (arith, next-is, stop_is racks places stops s p to_lt, ltb-true (get_or nexts p 0) (get_or stops p 0) (and_r (away_by racking places g) t)) in
      let own : cards_to racks places (g + 1) p ≡ cards_to racks places g p ++ g ∷ [] = cards-on racks places g p c m in
      let one : length (cards_to racks places (g + 1) p) ≡ length (cards_to racks places g p) + 1 = ap length own ∙ length-append (cards_to racks places g p) (g ∷ []) in
      let at : 2 * get_or nexts p 0 ≡ 2 * (start_of racks places p + length (cards_to racks places g p)) + 0 = omega (arith, next-is) in
      record {
        nexts-are = λ q h. elim (ℕ_discrete q p) [
          | yes e ↦ rw e (get_or-set_same nexts p (get_or nexts p 0 + 1) 0 (omega (arith, w.long, to_lt)) ∙ omega (arith, next-is, one))
          | no d ↦ get_or-set_other nexts p q (get_or nexts p 0 + 1) 0 d ∙ w.nexts-are q h ∙ rw (others q d)
        ];
        long = length-set nexts p _ ∙ w.long;
        put_is =
            omega (
              arith,
              w.put_is,
              sum-on (length racks) (λ q. length (cards_to racks places g q)) (λ q. length (cards_to racks places (g + 1) q)) p to_lt one (λ q d. ap length (others q d)),
            );
        list =
            rw (at, w.list)
            (sym (columns-one 0 (omega arith) (start_of racks places) (cards_to racks places g) (cards_to racks places (g + 1)) p g own others (λ q h. omega (arith, start_up racks places p q h)) before (length racks) to_lt));
      }

  -- it does not
  granting-off : takes_card racking places g nexts stops ≡ false → Granting racks places before (g + 1) put nexts lent
  unfolding takes_card
  granting-off t =
      let same : (q : ℕ) → cards_to racks places (g + 1) q ≡ cards_to racks places g q = λ q. elim (ℕ_discrete q p) [ yes e ↦ rw e own | no d ↦ others q d ] in
      record {
        nexts-are = λ q h. w.nexts-are q h ∙ rw (same q);
        long = w.long;
        put_is = w.put_is ∙ sum_cong (length racks) _ _ (λ q _. ap length (sym (same q)));
        list = w.list ∙ columns_cong 0 (length racks) (start_of racks places) _ _ before (λ q _. sym (same q));
      }
    where
      -- no card is away, or its share is used up
      own : cards_to racks places (g + 1) p ≡ cards_to racks places g p
      own = by-test (away_to racks places p g)
          (λ a.
          let b : away_by racking places g ≡ true = away_by_lem racks places racking v filled g l ∙ to-away racks places p g a in
          let full : length (cards_to racks places g p) ≡ share_of racks places p =
          by-test (ltb (get_or nexts p 0) (get_or stops p 0))
          (λ m. absurd (no_way (both b m) t))
          (λ m. omega (arith, next-is, stop_is racks places stops s p to_lt, cards-few racks places g p, ltb-false (get_or nexts p 0) (get_or stops p 0) m)) in
          cards-full racks places g p full (g + 1) (omega arith))
          (λ a. cards-off racks places g p a)

  -- as the code goes on
  pub granting-more : (one : ℕ) (nexts' lent' : List ℕ) → CardGranted racking places g nexts stops lent one nexts' lent' → Granting racks places before (g + 1) (put + one) nexts' lent'
  granting-more one nexts' lent' c =
      by-test (takes_card racking places g nexts stops)
      (λ t. rw (c.one-is, c.nexts-are, c.list, t) (granting-on t))
      (λ t.
      let z : set nexts p (get_or nexts p 0 + 0) ≡ nexts = rw add-zero (set-get_or nexts p 0) in
      rw (c.one-is, c.nexts-are, c.list, t, add-zero, z) (granting-off t))
