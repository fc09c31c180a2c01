-- Bindings are one, and are told once: every store entry and every news is the owner's entry; news plus holders come to S.
use mathlib.Core.Path.{◌≡◌, refl, sym, subst, ap, ◌∙◌}
use mathlib.Core.Logic.{◌⊎◌, inl, inr, ⊎_elim, ◌≢◌}
use mathlib.Core.Bool.{Bool, true, false, ◌&&◌}
use mathlib.Core.List.{List, [], ◌∷◌, ◌++◌, map}
use mathlib.Core.Option.{Option, none, some}
use Prim.Native.Nat.{ℕ, zero, suc, ◌+◌, ◌*◌, ◌≤◌, ◌<◌}
use native.Mathlib.Omega.{arith}
use native.Mathlib.Decide.{ℕ_discrete}
use borrow.Author.Tests.{eq-eqb, ne_eqb}
use lib.Dec.{eqb}
use lib.ListN.{get_elem?}
use Rattle.base.specs.Choice.{pick, upd}
use Rattle.base.specs.Lists.{without, All, total, sum, Member, here}
use Rattle.base.proofs.Changes.{upd_same, upd_other, upd_all, upd_else}
use Rattle.base.proofs.Sums.{sum_same, sum_add, sum_const, sum_zero, sum_one}
use Rattle.base.proofs.Elements.{total_append, total_without, all_append, all_map, all_without, all_at, member_left, member_right, member_cons, member_front}
use Rattle.paper.specs.Tables.{Table, is_unknown, record_at}
use Rattle.paper.specs.Runs.{Mark, initiated, entry, Statement, State, Run, as_item, initial, ItemOk}
use Rattle.paper.specs.Rules.{with_clash, with_mark, with_pair, part_statements, news_to, Rule, interchange, memo, dereference, identify, conflict, decompose, initiate, win, lose, arrive}
use Rattle.paper.specs.Reached.{FileOk, Reached}
use Rattle.paper.specs.Counts.{told, holds, news_of}
use Rattle.paper.specs.declared.Item.{Item}
use Rattle.paper.specs.declared.Item.TheVariants.{Statement as statement, Ask as ask, News as news}
use Rattle.paper.proofs.Soundness.{reached_sound, reached_keeps}

-- an owner mark, once set, stays
pub owner_stays : {t : Table} {k : ℕ} {j : Item} {σ : State} {ps : List Item} {σ' : State} → Rule t k j σ ps σ' → (y w : ℕ)
    → σ.owner y ≡ some w → σ'.owner y ≡ some w
owner_stays (interchange l) y w e = e
owner_stays (memo l d h) y w e = e
owner_stays {t = t} (dereference {c = c} {x = x} {u = u} {σ = σ} l d h) y w e = go (is_unknown t u)
  where
    go : (b : Bool) → (pick b (with_pair σ c x u) σ).owner y ≡ some w
    go true = e
    go false = e
owner_stays (identify h) y w e = e
owner_stays (conflict ha hb h) y w e = e
owner_stays (decompose ha hb h) y w e = e
owner_stays (initiate l d) y w e = e
owner_stays (win {x = x} {u = u} {σ = σ} d) y w e = go (ℕ_discrete y x)
  where
    go : Dec (y ≡ x) → upd σ.owner x (some u) y ≡ some w
    go (yes p) = let e' : σ.owner x ≡ some w = subst (λ (z : ℕ). σ.owner z ≡ some w) p e in absurd (let z : ◌≡◌ {A = ℕ} 0 1 = cc in omega arith)
    go (no p) = upd_other σ.owner x (some u) y p ∙ e
owner_stays (lose d) y w e = e
owner_stays arrive y w e = e

-- a news tells the owner's entry
abbrev pub Tells : (ℕ → Option ℕ) → Item → Type 0
Tells o (statement c a b) = Unit {0}
Tells o (ask c x u) = Unit {0}
Tells o (news c x u) = o x ≡ some u

pub record Bound (σ : State) (l : List Item) : Type 0 where
  pub entries : (c x v : ℕ) → σ.store c x ≡ entry v → σ.owner x ≡ some v
  pub news : All (Tells σ.owner) l

abbrev Owned : (ℕ → Option ℕ) → ℕ → Mark → Type 0
Owned o x m = (v : ℕ) → m ≡ entry v → o x ≡ some v

parts_tell : (o : ℕ → Option ℕ) (c : ℕ) (ps qs : List ℕ) → All (Tells o) (part_statements c ps qs)
parts_tell o c [] qs = tt
parts_tell o c (p ∷ ps) [] = tt
parts_tell o c (p ∷ ps) (q ∷ qs) = (tt, parts_tell o c ps qs)

news_tell : (o : ℕ → Option ℕ) (c k x u : ℕ) → o x ≡ some u → All (Tells o) (news_to c k x u)
news_tell o c zero x u e = tt
news_tell o c (suc k) x u e = (e, news_tell o (suc c) k x u e)

marked_bound : (σ : State) (c x : ℕ) (m : Mark) → Owned σ.owner x m → ((d y v : ℕ) → σ.store d y ≡ entry v → σ.owner y ≡ some v)
    → (d y v : ℕ) → (with_mark σ c x m).store d y ≡ entry v → σ.owner y ≡ some v
marked_bound σ c x m h old =
    upd_all (λ d f. (y : ℕ) → Owned σ.owner y (f y)) σ.store c (upd (σ.store c) x m) old (upd_all (Owned σ.owner) (σ.store c) x m (old c) h)

module _ (t : Table) where
  entries_kept : {k : ℕ} {j : Item} {σ : State} {ps : List Item} {σ' : State} → Rule t k j σ ps σ' → Tells σ.owner j
      → ((c x v : ℕ) → σ.store c x ≡ entry v → σ.owner x ≡ some v) → (c x v : ℕ) → σ'.store c x ≡ entry v → σ'.owner x ≡ some v
  entries_kept (interchange l) n old = old
  entries_kept (memo l d h) n old = old
  entries_kept (dereference {c = c} {x = x} {u = u} {σ = σ} l d h) n old = go (is_unknown t u)
    where
      go : (b : Bool) (e y v : ℕ) → (pick b (with_pair σ c x u) σ).store e y ≡ entry v → (pick b (with_pair σ c x u) σ).owner y ≡ some v
      go true = old
      go false = old
  entries_kept (identify h) n old = old
  entries_kept (conflict ha hb h) n old = old
  entries_kept (decompose ha hb h) n old = old
  entries_kept (initiate {c = c} {x = x} {σ = σ} l d) n old =
      marked_bound σ c x initiated (λ v e. absurd (let z : ◌≡◌ {A = ℕ} 0 1 = cc in omega arith)) old
  entries_kept (win {c = c} {x = x} {u = u} {σ = σ} d) n old = λ e y v h. owner_stays {t = t} (win {c = c} {x = x} {u = u} {σ = σ} d) y v (old e y v h)
  entries_kept (lose d) n old = old
  entries_kept (arrive {c = c} {x = x} {u = u} {σ = σ}) n old =
      marked_bound σ c x (entry u) (λ v e. let e' : u ≡ v = cc in subst (λ (z : ℕ). σ.owner x ≡ some z) e' n) old

  products_tell : {k : ℕ} {j : Item} {σ : State} {ps : List Item} {σ' : State} → Rule t k j σ ps σ' → All (Tells σ'.owner) ps
  products_tell (interchange l) = (tt, tt)
  products_tell (memo l d h) = tt
  products_tell (dereference l d h) = (tt, tt)
  products_tell (identify h) = tt
  products_tell (conflict ha hb h) = tt
  products_tell (decompose {c = c} {a = a} {b = b} {σ = σ} ha hb h) =
      parts_tell σ.owner c (record_at t a).parts (record_at t b).parts
  products_tell (initiate l d) = (tt, (tt, tt))
  products_tell (win {x = x} {u = u} {σ = σ} d) =
      news_tell (upd σ.owner x (some u)) 0 t.cabinets x u (upd_same σ.owner x (some u))
  products_tell (lose d) = tt
  products_tell arrive = tt

  pub bound_kept : {k : ℕ} {j : Item} {σ : State} {ps : List Item} {σ' : State} (m : List Item) → Rule t k j σ ps σ' → Bound σ (j ∷ m) → Bound σ' (m ++ ps)
  bound_kept {σ = σ} {ps = ps} {σ' = σ'} m r b =
      record {
        entries = entries_kept r b.news.0 b.entries;
        news = all_append (Tells σ'.owner) m ps (all_map (Tells σ.owner) (Tells σ'.owner) lift m b.news.1) (products_tell r);
      }
    where
      lift : (i : Item) → Tells σ.owner i → Tells σ'.owner i
      lift (statement c a b) h = h
      lift (ask c x u) h = h
      lift (news c x u) h = owner_stays r x u h

pub bound_front : (σ : State) (l : List Item) (i : ℕ) (j : Item) → get_elem? l i ≡ some j → Bound σ l → Bound σ (j ∷ without l i)
bound_front σ l i j e b =
    record {
      entries = b.entries;
      news = (all_at (Tells σ.owner) l i j e b.news, all_without (Tells σ.owner) l i b.news);
    }

statements_tell : (o : ℕ → Option ℕ) (qs : List Statement) → All (Tells o) (map as_item qs)
statements_tell o [] = tt
statements_tell o (q ∷ qs) = (tt, statements_tell o qs)

pub bound_start : (qs : List Statement) → Bound (initial qs).state (initial qs).pending
unfolding initial
bound_start qs =
    record {
      entries = λ c x v e. absurd (let z : ◌≡◌ {A = ℕ} 0 1 = cc in omega arith);
      news = statements_tell (λ x. none) qs;
    }

-- One binding for each unknown everywhere: every store entry and every pending news is the owner's entry.
pub one_binding : (t : Table) (qs : List Statement) → FileOk t qs → {n : ℕ} {r : Run} → Reached t qs n r → Bound r.state r.pending
one_binding t qs ok h =
    reached_keeps t qs ok (λ n. Bound) (bound_start qs) (λ n. bound_front) (λ n σ s f j i m k ps σ' r. bound_kept t m r) h

-- news of x to cabinet c
abbrev pub news_at : ℕ → ℕ → Item → ℕ
news_at c x (statement d a b) = 0
news_at c x (ask d y u) = 0
news_at c x (news d y u) = pick (eqb d c && eqb y x) 1 0

-- at each cabinet, the entry is held or its news is pending, if it is told
abbrev Here : Table → (ℕ → Option ℕ) → List Item → ℕ → ℕ → Mark → Type 0
Here t o l c x m = c < t.cabinets → holds m + total (news_at c x) l ≡ told (o x)

-- where a mark is initiated, an ask is pending or the binding is made
abbrev Pledge : (ℕ → Option ℕ) → List Item → ℕ → ℕ → Mark → Type 0
Pledge o l c x m = m ≡ initiated → ((u : ℕ) × Member (ask c x u) l) ⊎ (told (o x) ≡ 1)

pub record Told (t : Table) (σ : State) (l : List Item) : Type 0 where
  pub kept : (c x : ℕ) → Here t σ.owner l c x (σ.store c x)
  pub pledged : (c x : ℕ) → Pledge σ.owner l c x (σ.store c x)

told_le : (o : Option ℕ) → told o ≤ 1
told_le none = omega arith
told_le (some v) = omega arith

at_same : (c x u : ℕ) → news_at c x (news c x u) ≡ 1
at_same c x u = rw (eq-eqb c c refl, eq-eqb x x refl)

at_other_cabinet : (c x d y u : ℕ) → d ≢ c → news_at d y (news c x u) ≡ 0
at_other_cabinet c x d y u h = rw (ne_eqb c d (λ e. h (sym e)))

at_other : (c x d y u : ℕ) → y ≢ x → news_at d y (news c x u) ≡ 0
at_other c x d y u h = rw (ne_eqb x y (λ e. h (sym e))) (go (eqb c d))
  where
    go : (b : Bool) → ◌≡◌ {A = ℕ} (pick (b && false) 1 0) 0
    go true = refl
    go false = refl

to_other : (d y c k x u : ℕ) → y ≢ x → total (news_at d y) (news_to c k x u) ≡ 0
to_other d y c zero x u h = refl
to_other d y c (suc k) x u h = omega (arith, at_other c x d y u h, to_other d y (suc c) k x u h)

to_past : (d c k x u : ℕ) → d < c → total (news_at d x) (news_to c k x u) ≡ 0
to_past d c zero x u h = refl
to_past d c (suc k) x u h = omega (arith, at_other_cabinet c x d x u (omega arith), to_past d (suc c) k x u (omega arith))

-- each cabinet is told once
to_each : (d c k x u : ℕ) → c ≤ d → d < c + k → total (news_at d x) (news_to c k x u) ≡ 1
to_each d c zero x u h l = absurd (let z : ⊥ = omega arith in z)
to_each d c (suc k) x u h l = go (ℕ_discrete d c) (λ h'. to_each d (suc c) k x u h' (omega arith))
  where
    go : Dec (d ≡ c) → (suc c ≤ d → total (news_at d x) (news_to (suc c) k x u) ≡ 1) → total (news_at d x) (news_to c (suc k) x u) ≡ 1
    go (yes e) ih =
        subst (λ (n : ℕ). news_at n x (news c x u) + total (news_at n x) (news_to (suc c) k x u) ≡ 1) (sym e)
        (omega (arith, at_same c x u, to_past c (suc c) k x u (omega arith)))
    go (no e) ih = omega (arith, at_other_cabinet c x d x u e, ih (omega arith))

parts_no_news : (d y c : ℕ) (ps qs : List ℕ) → total (news_at d y) (part_statements c ps qs) ≡ 0
parts_no_news d y c [] qs = refl
parts_no_news d y c (p ∷ ps) [] = refl
parts_no_news d y c (p ∷ ps) (q ∷ qs) = omega (arith, parts_no_news d y c ps qs)

module _ (t : Table) where
  -- a statement goes and no news comes: store and owner marks as they were
  quiet : (σ σ' : State) (c a b : ℕ) (m ps : List Item) → σ'.store ≡ σ.store → σ'.owner ≡ σ.owner
      → ((d y : ℕ) → total (news_at d y) ps ≡ 0) → Told t σ (statement c a b ∷ m) → Told t σ' (m ++ ps)
  quiet σ σ' c a b m ps es eo h v =
      subst (λ (s : ℕ → ℕ → Mark). ((d y : ℕ) → Here t σ'.owner (m ++ ps) d y (s d y)) × ((d y : ℕ) → Pledge σ'.owner (m ++ ps) d y (s d y)) → Told t σ' (m ++ ps))
      es (λ w. record { kept = w.0; pledged = w.1 })
      (subst (λ (o : ℕ → Option ℕ). ((d y : ℕ) → Here t o (m ++ ps) d y (σ.store d y)) × ((d y : ℕ) → Pledge o (m ++ ps) d y (σ.store d y))) (sym eo) (
        λ d y l. omega (arith, v.kept d y l, total_append (news_at d y) m ps, h d y),
        λ d y e. ⊎_elim (λ w. inl (w.0, member_left ps (past w.1))) (λ w. inr w) (v.pledged d y e),
      ))
    where
      past : {d y u : ℕ} → Member (ask d y u) (statement c a b ∷ m) → Member (ask d y u) m
      past h = ⊎_elim (λ e. absurd (let z : ◌≡◌ {A = ℕ} 0 1 = cc in omega arith)) (λ w. w) (member_cons h)

  told_kept : (σ : State) (j : Item) → ItemOk t j → (m : List Item) {k : ℕ} {ps : List Item} {σ' : State} → Rule t k j σ ps σ' → Told t σ (j ∷ m)
      → Told t σ' (m ++ ps)
  told_kept σ j i m (interchange {c = c} {u = u} {x = x} l) v = quiet σ σ c u x m (statement c x u ∷ []) refl refl (λ d y. refl) v
  told_kept σ j i m (memo {c = c} {x = x} {u = u} l e h) v = quiet σ σ c x u m [] refl refl (λ d y. refl) v
  told_kept σ j i m (dereference {c = c} {x = x} {u = u} {v = w} l e h) v = go (is_unknown t u)
    where
      go : (b : Bool) → Told t (pick b (with_pair σ c x u) σ) (m ++ (statement c w u ∷ []))
      go true = quiet σ (with_pair σ c x u) c x u m (statement c w u ∷ []) refl refl (λ d y. refl) v
      go false = quiet σ σ c x u m (statement c w u ∷ []) refl refl (λ d y. refl) v
  told_kept σ j i m (identify {c = c} {x = x} h) v = quiet σ σ c x x m [] refl refl (λ d y. refl) v
  told_kept σ j i m (conflict {c = c} {a = a} {b = b} ha hb e) v = quiet σ (with_clash σ c) c a b m [] refl refl (λ d y. refl) v
  told_kept σ j i m (decompose {c = c} {a = a} {b = b} ha hb e) v =
      quiet σ σ c a b m (part_statements c (record_at t a).parts (record_at t b).parts) refl refl
      (λ d y. parts_no_news d y c (record_at t a).parts (record_at t b).parts) v
  told_kept σ j i m (initiate {c = c} {x = x} {u = u} l e) v =
      let p : List Item = m ++ (ask c x u ∷ statement c x u ∷ []) in
      let q = quiet σ σ c x u m (ask c x u ∷ statement c x u ∷ []) refl refl (λ d y. refl) v in
      record {
        kept =
            upd_all (λ d f. (y : ℕ) → Here t σ.owner p d y (f y)) σ.store c (upd (σ.store c) x initiated) q.kept
            (upd_all (Here t σ.owner p c) (σ.store c) x initiated (q.kept c) (λ h. rw e at (q.kept c x h)));
        pledged =
            upd_all (λ d f. (y : ℕ) → Pledge σ.owner p d y (f y)) σ.store c (upd (σ.store c) x initiated) q.pledged
            (upd_all (Pledge σ.owner p c) (σ.store c) x initiated (q.pledged c) (λ h. inl (u, member_right m here)));
      }
  told_kept σ j i m (win {c = c} {x = x} {u = u} e) v =
      record {
        kept = λ d y l. counted d y l (ℕ_discrete y x);
        pledged = λ d y h. ⊎_elim (λ w. asking d y w.0 (member_cons w.1)) (λ w. inr (still y w)) (v.pledged d y h);
      }
    where
      ns : List Item
      ns = news_to 0 t.cabinets x u

      o' : ℕ → Option ℕ
      o' = upd σ.owner x (some u)

      won : told (o' x) ≡ 1
      won = ap told (upd_same σ.owner x (some u))

      still : (y : ℕ) → told (σ.owner y) ≡ 1 → told (o' y) ≡ 1
      still = upd_all (λ y k. told (σ.owner y) ≡ 1 → told k ≡ 1) σ.owner x (some u) (λ y h. h) (λ h. refl)

      asking : (d y w : ℕ) → (ask d y w ≡ ask c x u) ⊎ Member (ask d y w) m → ((z : ℕ) × Member (ask d y z) (m ++ ns)) ⊎ (told (o' y) ≡ 1)
      asking d y w (inl p) = let q : x ≡ y = cc in inr (subst (λ (z : ℕ). told (o' z) ≡ 1) q won)
      asking d y w (inr h) = inl (w, member_left ns h)

      counted : (d y : ℕ) → d < t.cabinets → Dec (y ≡ x) → holds (σ.store d y) + total (news_at d y) (m ++ ns) ≡ told (o' y)
      counted d y l (yes p) =
          let old : holds (σ.store d x) + total (news_at d x) (ask c x u ∷ m) ≡ 0 = v.kept d x l ∙ ap told e in
          subst (λ (z : ℕ). holds (σ.store d z) + total (news_at d z) (m ++ ns) ≡ told (o' z)) (sym p)
          (omega (arith, old, won, total_append (news_at d x) m ns, to_each d 0 t.cabinets x u (omega arith) (omega arith)))
      counted d y l (no p) =
          omega (arith, v.kept d y l, ap told (upd_other σ.owner x (some u) y p), total_append (news_at d y) m ns, to_other d y 0 t.cabinets x u p)
  told_kept σ j i m (lose {c = c} {x = x} {u = u} {v = w} e) v =
      record {
        kept = λ d y l. omega (arith, v.kept d y l, total_append (news_at d y) m []);
        pledged = λ d y h. ⊎_elim (λ p. asking d y p.0 (member_cons p.1)) (λ p. inr p) (v.pledged d y h);
      }
    where
      asking : (d y z : ℕ) → (ask d y z ≡ ask c x u) ⊎ Member (ask d y z) m → ((z' : ℕ) × Member (ask d y z') (m ++ [])) ⊎ (told (σ.owner y) ≡ 1)
      asking d y z (inl p) = let q : x ≡ y = cc in inr (subst (λ (z' : ℕ). told (σ.owner z') ≡ 1) q (ap told e))
      asking d y z (inr h) = inl (z, member_left [] h)
  told_kept σ j i m (arrive {c = c} {x = x} {u = u}) v =
      record {
        kept =
            upd_else (λ d f. (y : ℕ) → Here t σ.owner (m ++ []) d y (f y)) σ.store c (upd (σ.store c) x (entry u))
            (λ d h y l. omega (arith, v.kept d y l, at_other_cabinet c x d y u h, total_append (news_at d y) m []))
            (upd_else (Here t σ.owner (m ++ []) c) (σ.store c) x (entry u)
            (λ y h l. omega (arith, v.kept c y l, at_other c x c y u h, total_append (news_at c y) m []))
            (λ l. omega (arith, v.kept c x l, at_same c x u, told_le (σ.owner x), total_append (news_at c x) m [])));
        pledged =
            upd_all (λ d f. (y : ℕ) → Pledge σ.owner (m ++ []) d y (f y)) σ.store c (upd (σ.store c) x (entry u)) old
            (upd_all (Pledge σ.owner (m ++ []) c) (σ.store c) x (entry u) (old c)
            (λ h. absurd (let z : ◌≡◌ {A = ℕ} 0 1 = cc in omega arith)));
      }
    where
      past : {d y z : ℕ} → Member (ask d y z) (news c x u ∷ m) → Member (ask d y z) m
      past h = ⊎_elim (λ e. absurd (let z : ◌≡◌ {A = ℕ} 0 1 = cc in omega arith)) (λ w. w) (member_cons h)

      old : (d y : ℕ) → Pledge σ.owner (m ++ []) d y (σ.store d y)
      old d y h = ⊎_elim (λ w. inl (w.0, member_left [] (past w.1))) (λ w. inr w) (v.pledged d y h)

  told_front : (σ : State) (l : List Item) (i : ℕ) (j : Item) → get_elem? l i ≡ some j → Told t σ l → Told t σ (j ∷ without l i)
  told_front σ l i j e v =
      record {
        kept = λ c x h. omega (arith, v.kept c x h, total_without (news_at c x) l i j e);
        pledged = λ c x h. ⊎_elim (λ w. inl (w.0, member_front l i j e w.1)) (λ w. inr w) (v.pledged c x h);
      }

  no_news_yet : (c x : ℕ) (qs : List Statement) → total (news_at c x) (map as_item qs) ≡ 0
  no_news_yet c x [] = refl
  no_news_yet c x (q ∷ qs) = omega (arith, no_news_yet c x qs)

  told_start : (qs : List Statement) → Told t (initial qs).state (initial qs).pending
  unfolding initial
  told_start qs =
      record {
        kept = λ c x h. omega (arith, no_news_yet c x qs);
        pledged = λ c x e. absurd (let z : ◌≡◌ {A = ℕ} 0 1 = cc in omega arith);
      }

  pub reached_told : (qs : List Statement) → FileOk t qs → {n : ℕ} {r : Run} → Reached t qs n r → Told t r.state r.pending
  reached_told qs ok h =
      reached_keeps t qs ok (λ n. Told t) (told_start qs) (λ n. told_front) (λ n σ s f j i m k ps σ' r v. told_kept σ j i m r v) h

  -- summed over the cabinets
  one_cabinet : (x : ℕ) (j : Item) → ItemOk t j → sum t.cabinets (λ c. news_at c x j) ≡ news_of x j
  one_cabinet x (statement d a b) h = sum_zero t.cabinets (λ c. 0) (λ y l. refl)
  one_cabinet x (ask d a b) h = sum_zero t.cabinets (λ c. 0) (λ y l. refl)
  one_cabinet x (news d y u) h =
      sum_one t.cabinets d (λ c. news_at c x (news d y u)) h.0 (λ c k. at_other_cabinet d y c x u k) ∙ rw (eq-eqb d d refl)

  all_cabinets : (x : ℕ) (l : List Item) → All (ItemOk t) l → sum t.cabinets (λ c. total (news_at c x) l) ≡ total (news_of x) l
  all_cabinets x [] a = sum_zero t.cabinets (λ c. 0) (λ y l. refl)
  all_cabinets x (j ∷ l) a =
      omega (arith, sum_add t.cabinets (λ c. news_at c x j) (λ c. total (news_at c x) l), one_cabinet x j a.0, all_cabinets x l a.1)

  -- both halves of document 01's sentence in one equation; that each entry held and each news is the owner's is `one_binding`
  pub news_come_to_S : (qs : List Statement) → FileOk t qs → {n : ℕ} {r : Run} → Reached t qs n r → (x : ℕ)
      → total (news_of x) r.pending + sum t.cabinets (λ c. holds (r.state.store c x)) ≡ t.cabinets * told (r.state.owner x)
  news_come_to_S qs ok {r = r} h x =
      let v = reached_told qs ok h in
      let e : sum t.cabinets (λ c. holds (r.state.store c x) + total (news_at c x) r.pending) ≡ sum t.cabinets (λ c. told (r.state.owner x)) =
      sum_same t.cabinets (λ c. holds (r.state.store c x) + total (news_at c x) r.pending) (λ c. told (r.state.owner x)) (λ c k. v.kept c x k) in
      omega (
        arith,
        e,
        sum_add t.cabinets (λ c. holds (r.state.store c x)) (λ c. total (news_at c x) r.pending),
        all_cabinets x r.pending (reached_sound t qs ok h).items,
        sum_const t.cabinets (told (r.state.owner x)),
      )

  -- "From an accepted file, for each unknown with an owner mark, pending news plus cabinets holding that entry come to S;"
  pub owned_news_come_to_S : (qs : List Statement) → FileOk t qs → {n : ℕ} {r : Run} → Reached t qs n r → (x u : ℕ)
      → r.state.owner x ≡ some u → total (news_of x) r.pending + sum t.cabinets (λ c. holds (r.state.store c x)) ≡ t.cabinets
  owned_news_come_to_S qs ok {r = r} h x u e =
      let one : told (r.state.owner x) ≡ 1 = ap told e in
      let all : t.cabinets * told (r.state.owner x) ≡ t.cabinets * 1 = ap (λ (k : ℕ). t.cabinets * k) one in
      omega (arith, news_come_to_S qs ok h x, all)

  -- "an unknown without one has no news and no cabinet holding an entry for it"
  pub unowned_has_no_news : (qs : List Statement) → FileOk t qs → {n : ℕ} {r : Run} → Reached t qs n r → (x : ℕ)
      → r.state.owner x ≡ none → (total (news_of x) r.pending ≡ 0) × ((c v : ℕ) → r.state.store c x ≡ entry v → ⊥)
  unowned_has_no_news qs ok {r = r} h x e =
      let zero_told : told (r.state.owner x) ≡ 0 = ap told e in
      let all : t.cabinets * told (r.state.owner x) ≡ t.cabinets * 0 = ap (λ (k : ℕ). t.cabinets * k) zero_told in (
        omega (arith, news_come_to_S qs ok h x, all),
        λ c v d.
            let o : r.state.owner x ≡ some v = (one_binding t qs ok h).entries c x v d in
            let z : ◌≡◌ {A = ℕ} 0 1 = cc in
            omega arith,
      )
