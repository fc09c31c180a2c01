-- What holds of every reached run that has not clashed. Nothing false: all that is held is alike. Nothing lost: every pair that
-- was ever a pending statement is pending or settled.
use mathlib.Core.Path.{◌≡◌, refl, sym, subst}
use mathlib.Core.Logic.{◌⊎◌, inl, inr, ⊎_elim}
use mathlib.Core.Bool.{Bool, true, false}
use mathlib.Core.List.{List, [], ◌∷◌, ◌++◌, map}
use mathlib.Core.Option.{Option, none, some}
use Prim.Native.Nat.{ℕ, zero, suc}
use native.Mathlib.Omega.{arith}
use lib.ListN.{get_elem?}
use Rattle.base.specs.Choice.{pick, upd}
use Rattle.base.specs.Lists.{without, All, Member, here, there, Zip, z_here, z_there}
use Rattle.base.proofs.Changes.{upd_all}
use Rattle.base.proofs.Elements.{all_append, all_without, all_at, member_left, member_right, member_cons, member_front, member_map}
use Rattle.paper.specs.Tables.{Table, is_unknown, record_at, less}
use Rattle.paper.specs.Runs.{Statement, State, Run, as_item, initial, MemoOk, StateOk, ItemOk}
use Rattle.paper.specs.Rules.{with_pair, Mem, part_statements, news_to, Rule, interchange, memo, dereference, identify, conflict, decompose, initiate, win, lose, arrive}
use Rattle.paper.specs.Reached.{FileOk, Reached}
use Rattle.paper.specs.Alike.{Stated, stated, Alike, given, back, via, part, Clash}
use Rattle.paper.specs.declared.Item.{Item}
use Rattle.paper.specs.declared.Item.TheVariants.{Statement as statement, Ask as ask, News as news}
use Rattle.paper.proofs.Ranks.{rank_unknown, less_rank}
use Rattle.paper.proofs.Soundness.{reached_keeps}
use Rattle.paper.proofs.Bindings.{owner_stays, Bound, bound_start, bound_front, bound_kept}
use Rattle.paper.proofs.Settled.{Settled, swapped, same, dereferenced, decomposed}

-- a statement a = b is pending, at whatever cabinet
pub data Pends (l : List Item) (a b : ℕ) : Type 0 where
  pends : {c : ℕ} → Member (statement c a b) l → Pends l a b

-- the sides of a statement or an ask are alike
abbrev Fact : Table → List Statement → Item → Type 0
Fact t qs (statement c a b) = Alike t qs a b
Fact t qs (ask c x u) = Alike t qs x u
Fact t qs (news c x u) = Unit {0}

pub record History (t : Table) (qs : List Statement) (σ : State) (l : List Item) : Type 1 where
  pub H : ℕ → ℕ → Type 0
  pub all_stated : (a b : ℕ) → Stated qs a b → H a b
  pub each : (a b : ℕ) → H a b → Pends l a b ⊎ Settled t σ.owner H a b
  pub memos : (c x u : ℕ) → σ.memo c x u ≡ true → (v : ℕ) × (σ.owner x ≡ some v) × H v u
  pub facts : All (Fact t qs) l
  pub owners : (x v : ℕ) → σ.owner x ≡ some v → Alike t qs x v

-- an unclashed run has its history; for a clashed one the statements clash
pub data Kept (t : Table) (qs : List Statement) (σ : State) (l : List Item) : Type 1 where
  whole : σ.clash ≡ none → History t qs σ l → Kept t qs σ l
  broken : {c : ℕ} → σ.clash ≡ some c → Clash t qs → Kept t qs σ l

settled_up : {t : Table} {o o' : ℕ → Option ℕ} {H H' : ℕ → ℕ → Type 0} {a b : ℕ} → ((x v : ℕ) → o x ≡ some v → o' x ≡ some v)
    → ((p q : ℕ) → H p q → H' p q) → Settled t o H a b → Settled t o' H' a b
settled_up {a = a} {b = b} f g (swapped l h) = swapped l (g b a h)
settled_up f g (same e) = same e
settled_up {a = a} {b = b} f g (dereferenced {v = v} e l h) = dereferenced (f a v e) l (g v b h)
settled_up f g (decomposed ha hb e h) = decomposed ha hb e (λ p q z. g p q (h p q z))

pends_right : (m : List Item) {l : List Item} {a b : ℕ} → Pends l a b → Pends (m ++ l) a b
pends_right m (pends h) = pends (member_right m h)

history_front : (t : Table) (qs : List Statement) (σ : State) (l : List Item) (i : ℕ) (j : Item) → get_elem? l i ≡ some j
    → History t qs σ l → History t qs σ (j ∷ without l i)
history_front t qs σ l i j e v =
    record {
      H = v.H;
      all_stated = v.all_stated;
      each = λ a b h. moved a b (v.each a b h);
      memos = v.memos;
      facts = (all_at (Fact t qs) l i j e v.facts, all_without (Fact t qs) l i v.facts);
      owners = v.owners;
    }
  where
    moved : (a b : ℕ) → Pends l a b ⊎ Settled t σ.owner v.H a b → Pends (j ∷ without l i) a b ⊎ Settled t σ.owner v.H a b
    moved a b (inl (pends h)) = inl (pends (member_front l i j e h))
    moved a b (inr d) = inr d

-- what a rule has to show: its products' pairs New are pending, its item's pair is settled or pending again
module _ (t : Table) (qs : List Statement) (m : List Item) where
  next : {k : ℕ} {j : Item} {σ : State} {ps : List Item} {σ' : State} → Rule t k j σ ps σ' → (v : History t qs σ (j ∷ m)) (New : ℕ → ℕ → Type 0)
      → ((a b : ℕ) → New a b → Pends ps a b)
      → ((c a b : ℕ) → statement c a b ≡ j → Pends ps a b ⊎ Settled t σ'.owner (λ p q. v.H p q ⊎ New p q) a b)
      → All (Fact t qs) ps
      → ((x w : ℕ) → σ'.owner x ≡ some w → Alike t qs x w)
      → ((c x u : ℕ) → σ'.memo c x u ≡ true → (w : ℕ) × (σ'.owner x ≡ some w) × (v.H w u ⊎ New w u))
      → History t qs σ' (m ++ ps)
  next {j = j} {σ = σ} {ps = ps} {σ' = σ'} r v New new this facts owners memos =
      record {
        H = λ p q. v.H p q ⊎ New p q;
        all_stated = λ a b h. inl (v.all_stated a b h);
        each = λ a b h. ⊎_elim (λ h'. old a b (v.each a b h')) (λ h'. inl (pends_right m (new a b h'))) h;
        memos = memos;
        facts = all_append (Fact t qs) m ps v.facts.1 facts;
        owners = owners;
      }
    where
      old : (a b : ℕ) → Pends (j ∷ m) a b ⊎ Settled t σ.owner v.H a b
          → Pends (m ++ ps) a b ⊎ Settled t σ'.owner (λ p q. v.H p q ⊎ New p q) a b
      old a b (inl (pends {c = c} h)) =
          ⊎_elim (λ e. ⊎_elim (λ w. inl (pends_right m w)) (λ d. inr d) (this c a b e)) (λ h'. inl (pends (member_left ps h'))) (member_cons h)
      old a b (inr d) = inr (settled_up (owner_stays r) (λ p q h. inl h) d)

  -- a rule that leaves owner marks and memos
  plainly : {k : ℕ} {j : Item} {σ : State} {ps : List Item} {σ' : State} → Rule t k j σ ps σ' → (v : History t qs σ (j ∷ m)) (New : ℕ → ℕ → Type 0)
      → σ'.owner ≡ σ.owner → σ'.memo ≡ σ.memo
      → ((a b : ℕ) → New a b → Pends ps a b)
      → ((c a b : ℕ) → statement c a b ≡ j → Pends ps a b ⊎ Settled t σ.owner (λ p q. v.H p q ⊎ New p q) a b)
      → All (Fact t qs) ps → History t qs σ' (m ++ ps)
  plainly {j = j} {σ = σ} {ps = ps} {σ' = σ'} r v New eo em new this facts =
      next r v New new
      (subst (λ (o : ℕ → Option ℕ). (c a b : ℕ) → statement c a b ≡ j → Pends ps a b ⊎ Settled t o (λ p q. v.H p q ⊎ New p q) a b) (sym eo) this)
      facts
      (subst (λ (o : ℕ → Option ℕ). (x w : ℕ) → o x ≡ some w → Alike t qs x w) (sym eo) v.owners)
      (subst (λ (o : ℕ → Option ℕ). (c x u : ℕ) → σ'.memo c x u ≡ true → (w : ℕ) × (o x ≡ some w) × (v.H w u ⊎ New w u)) (sym eo)
      (subst (λ (f : ℕ → ℕ → ℕ → Bool). (c x u : ℕ) → f c x u ≡ true → (w : ℕ) × (σ.owner x ≡ some w) × (v.H w u ⊎ New w u)) (sym em)
      (λ c x u e. let h = v.memos c x u e in (h.0, h.1, inl h.2))))

-- the pair x, y alone
abbrev Only : ℕ → ℕ → ℕ → ℕ → Type 0
Only x y p q = (p ≡ x) × (q ≡ y)

abbrev None : ℕ → ℕ → Type 0
None p q = ⊥

only_pends : (c x y : ℕ) (p q : ℕ) → Only x y p q → Pends (statement c x y ∷ []) p q
only_pends c x y p q h =
    subst (λ (z : ℕ). Pends (statement c x y ∷ []) z q) (sym h.0) (subst (λ (z : ℕ). Pends (statement c x y ∷ []) x z) (sym h.1) (pends here))

-- what holds of the item's own sides holds of whatever statement it is
this_one : (P : ℕ → ℕ → Type 0) (c a b : ℕ) → P a b → (c' a' b' : ℕ) → statement c' a' b' ≡ statement c a b → P a' b'
this_one P c a b h c' a' b' e =
    let ea : a ≡ a' = cc in
    let eb : b ≡ b' = cc in
    subst (λ (z : ℕ). P z b') ea (subst (λ (z : ℕ). P a z) eb h)

parts_pend : (c : ℕ) {ps qs : List ℕ} {p q : ℕ} → Zip ps qs p q → Pends (part_statements c ps qs) p q
parts_pend c z_here = pends here
parts_pend c (z_there z) = more (parts_pend c z)
  where
    more : {j : Item} {l : List Item} {a b : ℕ} → Pends l a b → Pends (j ∷ l) a b
    more (pends h) = pends (there h)

parts_facts : (t : Table) (qs : List Statement) (c : ℕ) (ps rs : List ℕ) → ((p r : ℕ) → Zip ps rs p r → Alike t qs p r)
    → All (Fact t qs) (part_statements c ps rs)
parts_facts t qs c [] rs h = tt
parts_facts t qs c (p ∷ ps) [] h = tt
parts_facts t qs c (p ∷ ps) (r ∷ rs) h = (h p r z_here, parts_facts t qs c ps rs (λ a b z. h a b (z_there z)))

news_facts : (t : Table) (qs : List Statement) (c k x u : ℕ) → All (Fact t qs) (news_to c k x u)
news_facts t qs c zero x u = tt
news_facts t qs c (suc k) x u = (tt, news_facts t qs (suc c) k x u)

no_statement : {A : Type 0} {c a b d x u : ℕ} → statement c a b ≡ ask d x u → A
no_statement e = absurd (let z : ◌≡◌ {A = ℕ} 0 1 = cc in omega arith)

module _ (t : Table) (qs : List Statement) where
  -- Memo drops a statement against a pair that the memo holds, greater first
  met : (σ : State) → StateOk t σ → (c x u : ℕ) → less t u x ≡ true → Mem σ c x u → σ.memo c x u ≡ true
  met σ s c x u l (inl e) = e
  met σ s c x u l (inr e) =
      let h = subst (MemoOk t c u x) e (s.memo c u x) in
      absurd (let z : ⊥ = omega (arith, h.1, h.2, less_rank t u x l, rank_unknown t u h.1, rank_unknown t x (omega (arith, h.1, h.2))) in z)

  kept : (n : ℕ) (σ : State) → StateOk t σ → σ.clash ≡ none → (j : Item) → ItemOk t j → (m : List Item) (k : ℕ) (ps : List Item) (σ' : State)
      → Rule t k j σ ps σ' → Bound σ (j ∷ m) → History t qs σ (j ∷ m) → Kept t qs σ' (m ++ ps)
  kept n σ s free j i m k ps σ' (interchange {c = c} {u = u} {x = x} l) b v =
      whole free
      (plainly t qs m (interchange {c = c} l) v (Only x u) refl refl (only_pends c x u)
      (this_one (λ p q. Pends (statement c x u ∷ []) p q ⊎ Settled t σ.owner (λ p q. v.H p q ⊎ Only x u p q) p q) c u x (inr (swapped (less_rank t u x l) (inr (refl, refl)))))
      (back v.facts.0, tt))
  kept n σ s free j i m k ps σ' (memo {c = c} {x = x} {u = u} l e h) b v =
      let w = v.memos c x u (met σ s c x u l h) in
      whole free
      (plainly t qs m (memo {c = c} l e h) v None refl refl (λ p q z. absurd z)
      (this_one (λ p q. Pends [] p q ⊎ Settled t σ.owner (λ p q. v.H p q ⊎ None p q) p q) c x u (inr (dereferenced w.1 (less_rank t u x l) (inl w.2))))
      tt)
  kept n σ s free j i m k ps σ' (dereference {c = c} {x = x} {u = u} {v = w} l e h) b v = go (is_unknown t u) refl
    where
      own : σ.owner x ≡ some w
      own = b.entries c x w e

      H' : ℕ → ℕ → Type 0
      H' p q = v.H p q ⊎ Only w u p q

      this : (c' a' b' : ℕ) → statement c' a' b' ≡ statement c x u → Pends (statement c w u ∷ []) a' b' ⊎ Settled t σ.owner H' a' b'
      this = this_one (λ p q. Pends (statement c w u ∷ []) p q ⊎ Settled t σ.owner H' p q) c x u (inr (dereferenced own (less_rank t u x l) (inr (refl, refl))))

      fact : All (Fact t qs) (statement c w u ∷ [])
      fact = (via (back (v.owners x w own)) v.facts.0, tt)

      Leads : ℕ → ℕ → Bool → Type 0
      Leads y z a = a ≡ true → (y' : ℕ) × (σ.owner y ≡ some y') × H' y' z

      old : (d y z : ℕ) → Leads y z (σ.memo d y z)
      old d y z f = let g = v.memos d y z f in (g.0, g.1, inl g.2)

      rule : (a : Bool) → is_unknown t u ≡ a → Rule t 3 (statement c x u) σ (statement c w u ∷ []) (pick a (with_pair σ c x u) σ)
      rule a d = subst (λ (z : Bool). Rule t 3 (statement c x u) σ (statement c w u ∷ []) (pick z (with_pair σ c x u) σ)) d (dereference l e h)

      go : (a : Bool) → is_unknown t u ≡ a → Kept t qs (pick a (with_pair σ c x u) σ) (m ++ (statement c w u ∷ []))
      go true d =
          whole free
          (next t qs m (rule true d) v (Only w u) (only_pends c w u) this fact v.owners
          (upd_all (λ d f. (y z : ℕ) → Leads y z (f y z)) σ.memo c (upd (σ.memo c) x (upd (σ.memo c x) u true)) old
          (upd_all (λ y f. (z : ℕ) → Leads y z (f z)) (σ.memo c) x (upd (σ.memo c x) u true) (old c)
          (upd_all (Leads x) (σ.memo c x) u true (old c x) (λ f. (w, own, inr (refl, refl)))))))
      go false d = whole free (plainly t qs m (rule false d) v (Only w u) refl refl (only_pends c w u) this fact)
  kept n σ s free j i m k ps σ' (identify {c = c} {x = x} h) b v =
      whole free
      (plainly t qs m (identify {c = c} h) v None refl refl (λ p q z. absurd z)
      (this_one (λ p q. Pends [] p q ⊎ Settled t σ.owner (λ p q. v.H p q ⊎ None p q) p q) c x x (inr (same refl)))
      tt)
  kept n σ s free j i m k ps σ' (conflict {a = a} {b = b} ha hb e) d v =
      broken refl (record { one = a; two = b; one_record = ha; two_record = hb; alike = v.facts.0; differ = e })
  kept n σ s free j i m k ps σ' (decompose {c = c} {a = a} {b = b} ha hb e) d v =
      whole free
      (plainly t qs m (decompose {c = c} ha hb e) v (Zip (record_at t a).parts (record_at t b).parts) refl refl (λ p q z. parts_pend c z)
      (this_one (λ p q. Pends (part_statements c (record_at t a).parts (record_at t b).parts) p q ⊎ Settled t σ.owner (λ p q. v.H p q ⊎ Zip (record_at t a).parts (record_at t b).parts p q) p q) c a b
      (inr (decomposed ha hb e (λ p q z. inr z))))
      (parts_facts t qs c (record_at t a).parts (record_at t b).parts (λ p q z. part ha hb v.facts.0 e z)))
  kept n σ s free j i m k ps σ' (initiate {c = c} {x = x} {u = u} l e) b v =
      whole free
      (plainly t qs m (initiate {c = c} l e) v None refl refl (λ p q z. absurd z)
      (this_one (λ p q. Pends (ask c x u ∷ statement c x u ∷ []) p q ⊎ Settled t σ.owner (λ p q. v.H p q ⊎ None p q) p q) c x u (inl (pends (there here))))
      (v.facts.0, (v.facts.0, tt)))
  kept n σ s free j i m k ps σ' (win {c = c} {x = x} {u = u} e) b v =
      whole free
      (next t qs m (win {c = c} {u = u} e) v None (λ p q z. absurd z) (λ c' p q z. no_statement z) (news_facts t qs 0 t.cabinets x u)
      (upd_all (λ y o. (w : ℕ) → o ≡ some w → Alike t qs y w) σ.owner x (some u) v.owners
      (λ w d. let d' : u ≡ w = cc in subst (λ (y : ℕ). Alike t qs x y) d' v.facts.0))
      (λ d y w f. let h = v.memos d y w f in (h.0, owner_stays {t = t} (win {c = c} {x = x} {u = u} {σ = σ} e) y h.0 h.1, inl h.2)))
  kept n σ s free j i m k ps σ' (lose {c = c} {x = x} {u = u} e) b v =
      whole free (plainly t qs m (lose {c = c} {u = u} e) v None refl refl (λ p q z. absurd z) (λ c' p q z. no_statement z) tt)
  kept n σ s free j i m k ps σ' (arrive {c = c} {x = x} {u = u}) b v =
      whole free
      (plainly t qs m (arrive {c = c} {x = x} {u = u}) v None refl refl (λ p q z. absurd z)
      (λ c' p q z. absurd (let y : ◌≡◌ {A = ℕ} 0 1 = cc in omega arith)) tt)

  -- bindings and history together
  pub record Remembered (σ : State) (l : List Item) : Type 1 where
    pub bound : Bound σ l
    pub history : Kept t qs σ l

  statement_facts : (l : List Statement) → ((q : Statement) → Member q l → Alike t qs q.left q.right) → All (Fact t qs) (map as_item l)
  statement_facts [] h = tt
  statement_facts (q ∷ l) h = (h q here, statement_facts l (λ p m. h p (there m)))

  stated_pends : {a b : ℕ} → Stated qs a b → Pends (map as_item qs) a b
  stated_pends (stated h) = pends (member_map as_item h)

  start : Remembered (initial qs).state (initial qs).pending
  unfolding initial
  start =
      record {
        bound = bound_start qs;
        history =
            whole refl
            (record {
              H = Stated qs;
              all_stated = λ a b h. h;
              each = λ a b h. inl (stated_pends h);
              memos = λ c x u e. absurd (let z : ◌≡◌ {A = ℕ} 0 1 = cc in omega arith);
              facts = statement_facts qs (λ q h. given (stated h));
              owners = λ x v e. absurd (let z : ◌≡◌ {A = ℕ} 0 1 = cc in omega arith);
            });
      }

  front : (n : ℕ) (σ : State) (l : List Item) (i : ℕ) (j : Item) → get_elem? l i ≡ some j → Remembered σ l → Remembered σ (j ∷ without l i)
  front n σ l i j e w = record { bound = bound_front σ l i j e w.bound; history = go w.history }
    where
      go : Kept t qs σ l → Kept t qs σ (j ∷ without l i)
      go (whole f v) = whole f (history_front t qs σ l i j e v)
      go (broken f c) = broken f c

  all_kept : (n : ℕ) (σ : State) → StateOk t σ → σ.clash ≡ none → (j : Item) → ItemOk t j → (m : List Item) (k : ℕ) (ps : List Item) (σ' : State)
      → Rule t k j σ ps σ' → Remembered σ (j ∷ m) → Remembered σ' (m ++ ps)
  all_kept n σ s free j i m k ps σ' r w = record { bound = bound_kept t m r w.bound; history = go w.history }
    where
      go : Kept t qs σ (j ∷ m) → Kept t qs σ' (m ++ ps)
      go (whole f v) = kept n σ s f j i m k ps σ' r w.bound v
      go (broken f c) = absurd (let z : ◌≡◌ {A = ℕ} 0 1 = cc in omega arith)

  pub reached_history : FileOk t qs → {n : ℕ} {r : Run} → Reached t qs n r → Kept t qs r.state r.pending
  reached_history ok h = (reached_keeps t qs ok (λ n. Remembered) start front all_kept h).history
