-- What each way through the two functions of agreement gives, and why they end.
use mathlib.Core.Path.{◌≡◌, refl, sym, subst, subst₂, ◌∙◌}
use mathlib.Core.Logic.{⊎_elim}
use mathlib.Core.Bool.{Bool, true, false}
use mathlib.Core.List.{List}
use Prim.Native.Nat.{ℕ, suc, ◌+◌, ◌-◌, ◌*◌, ◌≤◌, ◌<◌}
use native.Mathlib.Numerals.{add-one}
use native.Mathlib.Omega.{arith}
use borrow.Author.Tests.{ne_eqb, eqb-true}
use lib.Dec.{eqb}
use Rattle.std.specs.Prelude.{Result, Ok, Err, is_ok}
use Rattle.base.specs.Choice.{pick}
use Rattle.base.specs.Lists.{list_from, Bytes}
use Rattle.base.proofs.Tests.{snd_true}
use Rattle.base.proofs.Regions.{lt_or_le}
use Rattle.paper.specs.Tables.{same_head}
use Rattle.paper.specs.Ends.{End, at_open, at_record, agree, is_met, meeting, Unknowns, same, already, opens, left_open, right_open, differ, records, Parts, over, apart, on}
use Rattle.paper.proofs.Chains.{end_low}
use Rattle.paper.proofs.Depth.{LowEnd}
use Rattle.paper.proofs.MetPairs.{met_pairs_answer_depth_V}
use Rattle.paper.proofs.MetPairsEnd.{unmet, unmet_le, unmet_falls, met_keeps}
use Rattle.layout.specs.Fields.{symbol_of, part_count_of, part_of, record_of, owner_of, table_of}
use Rattle.layout.specs.Given.{Reads, byte_limit}
use Rattle.layout.proofs.SoundViews.{table_ok}
use Rattle.layout.proofs.ViewedFields.{head_byte}
use Rattle.agreement.specs.Given.{SoundRun}
use Rattle.agreement.specs.Ends.{ends_of, EndsAt}
use Rattle.agreement.specs.declared.met.Met.{Met}
use Rattle.agreement.specs.Met.{met_of, settled_in}
use Rattle.agreement.specs.Agreed.{UnknownsAgree, PartsAgree}
use Rattle.agreement.proofs.Ranges.{tests}
use Rattle.agreement.proofs.Chains.{open_end, record_end}
use Rattle.agreement.proofs.MetTable.{two_unknowns, not_met}

abbrev Table : Type 0
Table = ℕ → ℕ → Bool

-- a pair that is not to be compared agrees, and the table stays
pub settled_agrees : (e : ℕ → End) (x y : ℕ) (m : Table) → settled_in m x y ≡ true → Unknowns e x y m true m
unfolding settled_in
settled_agrees e x y m h = by_test (eqb x y) refl h
  where
    by_test : (b : Bool) → eqb x y ≡ b → pick b true (is_met m x y) ≡ true → Unknowns e x y m true m
    by_test true d t = subst (λ (z : ℕ). Unknowns e x z m true m) (eqb-true x y d) same
    by_test false d t = already t

-- two records whose heads were found the same
same_count : (d : List ℕ) (i k : ℕ) (c : Bool) → c ≡ same_head (record_of d i) (record_of d k) → c ≡ true → part_count_of d i ≡ part_count_of d k
same_count d i k c h t =
    eqb-true (part_count_of d i) (part_count_of d k)
    (snd_true (eqb (symbol_of d i) (symbol_of d k)) (eqb (part_count_of d i) (part_count_of d k)) (sym (head_byte d i k) ∙ sym h ∙ t))

pub same_counted : (d : List ℕ) (i k p : ℕ) (c : Bool) → c ≡ same_head (record_of d i) (record_of d k) → c ≡ true
    → Reads (part_count_of d i) byte_limit p → p ≡ part_count_of d k
same_counted d i k p c h t r = r.same ∙ same_count d i k c h t

-- a pair that is met for the first time, with the ends of both
module _ (d : List ℕ) (v x y a b : ℕ) (m m' : Table) (g : SoundRun d v) (ex : EndsAt d x a) (ey : EndsAt d y b) (f : settled_in m x y ≡ false)
    (next : m' ≡ meeting m x y) where
  n : x ≡ y → ⊥
  n = two_unknowns m x y f

  new : is_met m x y ≡ false
  new = not_met m x y f

  open_x : a < v → ends_of d x ≡ at_open a
  open_x h = ex.is ∙ open_end d a (omega (arith, g.unknowns))

  open_y : b < v → ends_of d y ≡ at_open b
  open_y h = ey.is ∙ open_end d b (omega (arith, g.unknowns))

  record_x : v ≤ a → ends_of d x ≡ at_record (record_of d (a - v))
  record_x h = rw g.unknowns (ex.is ∙ record_end d a (omega (arith, g.unknowns)))

  record_y : v ≤ b → ends_of d y ≡ at_record (record_of d (b - v))
  record_y h = rw g.unknowns (ey.is ∙ record_end d b (omega (arith, g.unknowns)))

  pub left_ends_open : a < v → Unknowns (ends_of d) x y m (eqb a b) m'
  left_ends_open h =
      rw next
      (⊎_elim (λ (l : b < v). opens n new (open_x h) (open_y l))
      (λ (l : v ≤ b).
      subst (λ (c : Bool). Unknowns (ends_of d) x y m c (meeting m x y)) (sym (ne_eqb a b (λ k. let z : ⊥ = omega arith in z)))
      (left_open n new (open_x h) (record_y l)))
      (lt_or_le b v))

  -- an open end agrees with itself alone
  pub ends_compared : a < v → (c : Bool) → eqb a b ≡ c → Unknowns (ends_of d) x y m c m'
  ends_compared h c t = subst (λ (z : Bool). Unknowns (ends_of d) x y m z m') t (left_ends_open h)

  pub right_ends_open : v ≤ a → b < v → Unknowns (ends_of d) x y m false m'
  right_ends_open h l = rw next (right_open n new (record_x h) (open_y l))

  module _ (h : v ≤ a) (l : v ≤ b) (c : Bool) (k : c ≡ same_head (record_of d (a - v)) (record_of d (b - v))) where
    pub heads_apart : c ≡ false → Unknowns (ends_of d) x y m false m'
    heads_apart t = rw next (differ n new (record_x h) (record_y l) (sym k ∙ t))

    module _ (t : c ≡ true) (p : ℕ) (r : Reads (part_count_of d (a - v)) byte_limit p) where
      pub compared : (s : Bool) (m'' : Table)
          → Parts (ends_of d) (list_from (part_of d (a - v)) p 0) (list_from (part_of d (b - v)) p 0) m' s m''
          → Unknowns (ends_of d) x y m s m''
      unfolding record_of
      compared s m'' ps =
          records n new (record_x h) (record_y l) (sym k ∙ t)
          (subst₂ (λ (i j : ℕ). Parts (ends_of d) (list_from (part_of d (a - v)) i 0) (list_from (part_of d (b - v)) j 0) (meeting m x y) s m'') r.same
          (same_counted d (a - v) (b - v) p c k t r) (rw next at ps))

      pub parts_compared : (o : Result Met Met)
          → PartsAgree (ends_of d) (list_from (part_of d (a - v)) p 0) (list_from (part_of d (b - v)) p 0) m' o
          → UnknownsAgree (ends_of d) x y m o
      parts_compared (Ok after) ps = compared true (met_of after.words) ps
      parts_compared (Err after) ps = compared false (met_of after.words) ps

-- "pairs not yet met fall"
pub new_pair_falls : (t v x y : ℕ) (m m' : Table) → m' ≡ meeting m x y → settled_in m x y ≡ false → x < v → y < v
    → 2 * unmet v m ≡ t → 2 * unmet v m' + 1 < t
new_pair_falls t v x y m m' next f hx hy e = rw next (omega (arith, unmet_falls v m x y hx hy (not_met m x y f)))

-- the parts before place j agree, which has led from the table m₀ to m: what the rest answers is the answer, and no pair is lost
pub record Compared (v : ℕ) (e : ℕ → End) (f g : ℕ → ℕ) (n j : ℕ) (m₀ m : Table) : Type 0 where
  pub rest : (b : Bool) (m' : Table) → Parts e (list_from f (n - j) j) (list_from g (n - j) j) m b m' → Parts e (list_from f n 0) (list_from g n 0) m₀ b m'
  pub fewer : unmet v m ≤ unmet v m₀

module _ (v : ℕ) (e : ℕ → End) (f g : ℕ → ℕ) (n : ℕ) where
  pub none_compared : (m : Table) → Compared v e f g n 0 m m
  none_compared m =
      let z : n - 0 ≡ n = omega arith in
      record {
        rest = λ b m' ps. subst (λ (k : ℕ). Parts e (list_from f k 0) (list_from g k 0) m b m') z ps;
        fewer = omega arith;
      }

  module _ (j : ℕ) (m₀ m : Table) (w : Compared v e f g n j m₀ m) where
    pub all_compared : n ≤ j → Parts e (list_from f n 0) (list_from g n 0) m₀ true m
    all_compared h =
        let z : n - j ≡ 0 = omega arith in
        w.rest true m (rw z over)

    module _ (p q : ℕ) (h : j < n) (rp : Reads (f j) byte_limit p) (rq : Reads (g j) byte_limit q) where
      here : (s : Bool) (m' : Table) → Unknowns e p q m s m' → Unknowns e (f j) (g j) m s m'
      here s m' u = rw (rp.same, rq.same) at u

      next_place : n - j ≡ suc (n - (j + 1))
      next_place = omega arith

      pub part_differs : (m' : Table) → Unknowns e p q m false m' → Parts e (list_from f n 0) (list_from g n 0) m₀ false m'
      part_differs m' u = w.rest false m' (rw next_place (apart (here false m' u)))

      pub one_more_compared : (m' : Table) → Unknowns e p q m true m' → Compared v e f g n (j + 1) m₀ m'
      one_more_compared m' u =
          record {
            rest = λ b m'' ps.
                w.rest b m''
                (rw next_place
                (on (here true m' u)
                (subst (λ (k : ℕ). Parts e (list_from f (n - (j + 1)) k) (list_from g (n - (j + 1)) k) m' b m'') (add-one j) ps)));
            fewer = omega (arith, w.fewer, unmet_le v m m' (met_keeps e u));
          }

  -- a pair that is not to be compared is passed over
  pub settled_compared : (j : ℕ) (m₀ m : Table) (p q : ℕ) (b : Bool) → Compared v e f g n j m₀ m → b ≡ settled_in m p q → b ≡ true → j < n
      → Reads (f j) byte_limit p → Reads (g j) byte_limit q → Compared v e f g n (j + 1) m₀ m
  settled_compared j m₀ m p q b w k t h rp rq =
      one_more_compared j m₀ m w p q h rp rq m (settled_agrees e p q m (sym k ∙ t))

unknowns_are : (d : List ℕ) (v : ℕ) → SoundRun d v → v ≡ (table_of d).unknowns
unfolding table_of
unknowns_are d v g = g.unknowns

-- asked with no pair met, the answer is agreement to depth V
pub none_met_answers : (d : List ℕ) (v x y : ℕ) (s : Bool) (m : Table) → Unknowns (ends_of d) x y (λ p q. false) s m
    → SoundRun d v → Bytes d → x < v → y < v → s ≡ agree (ends_of d) v x y
none_met_answers d v x y s m u g b hx hy = met_pairs_answer_depth_V (ends_of d) v (λ z h. low z) u hx hy
  where
    low : (z : ℕ) → LowEnd v (ends_of d z)
    low z = rw (unknowns_are d v g) (end_low (table_of d) (owner_of d) (table_ok d g.long (tests d v g) b) z)

pub one_agrees : (d : List ℕ) (v x y : ℕ) → x ≡ y → SoundRun d v → Bytes d → x < v → y < v → true ≡ agree (ends_of d) v x y
one_agrees d v x y e g f hx hy =
    let m : Table = λ p q. false in
    none_met_answers d v x y true m (subst (λ (z : ℕ). Unknowns (ends_of d) x z m true m) e same) g f hx hy

pub asked_answers : (d : List ℕ) (v x y : ℕ) (o : Result Met Met) (m : Table) → m ≡ (λ p q. false) → UnknownsAgree (ends_of d) x y m o
    → SoundRun d v → Bytes d → x < v → y < v → is_ok o ≡ agree (ends_of d) v x y
asked_answers d v x y (Ok after) m e u g f hx hy = none_met_answers d v x y true (met_of after.words) (rw e at u) g f hx hy
asked_answers d v x y (Err after) m e u g f hx hy = none_met_answers d v x y false (met_of after.words) (rw e at u) g f hx hy
