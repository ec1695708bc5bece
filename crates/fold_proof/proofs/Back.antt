-- Where a path of the source leads back to its first block, a branch of the folded function goes there.
use Rattle.std.proofs.Common.{◌≡◌, ◌⊎◌, ℕ, zero, suc, ◌<◌, List, [], ◌∷◌, length, All, Contains, Option, Some, None, Bool}
use Rattle.std.proofs.Common.{true, false}
use Rattle.std.proofs.Common.{cond, nat_eq, refl, sym, ap, ◌∙◌, subst, inl, inr, arith}
use Rattle.std.proofs.lemmas.Bool.{eqb-true}
use Rattle.std.proofs.lemmas.List.Elements.{All-head, All-tail}
use Rattle.rv64_instr.specs.Row.{Row, Branches, Jumps, Returns, row_of}
use Rattle.mir_func.specs.declared.block.Block.{Block}
use Rattle.mir_func.specs.declared.exit.Exit.{Exit}
use Rattle.mir_func.specs.declared.exit.Exit.TheVariants.{Onward, Perhaps, Always, Final}
use Rattle.mir_func.specs.declared.item.Item.{Item}
use Rattle.mir_func.specs.declared.item.ItemKind.{ItemKind}
use Rattle.mir_func.specs.declared.item.ItemKind.TheVariants.{Code, Mark, Phi}
use Rattle.mir_func.specs.declared.position.Pos.{Pos}
use Rattle.mir_func.specs.Exits.{row_exit, exit_of, Leaves}
use Rattle.mir_func.specs.Sound.{ids_of, IsJumpAtMost, MayFollow, EndsWell, Closes}
use Rattle.sem_mir.specs.Follow.{OnRow, GoesTo, KindsEndAlike, SameEnd}
use Rattle.fold_targets.specs.Leads.{first_id, always_to, lead}
use Rattle.fold_targets.specs.Ways.{EndsAt, leads_nowhere, comes_round, goes_on}
use Rattle.fold_rule.specs.declared.ways.Ways.{Ways}
use Rattle.fold_rule.specs.Turned.{sent, turned}
use Rattle.fold_rule.specs.Tails.{first_of, else_way, ways_by, ways_of, is_number, if_needed, jump_at_end, jump_for_branch, plain_tail}
use Rattle.fold_rule.specs.Tails.{branch_tail_to, tail_by, rewritten}
use Rattle.fold_rule.specs.Reached.{ways_in, LeadTo, Reached, first, onward}
use Rattle.fold_rule_proof.proofs.Rows.{sent_branch, turned_branch, sent_jump}
use Rattle.fold_rule_proof.proofs.Tails.{goes_else, jump_exit, always_some}
use Rattle.fold_proof.proofs.Ways.{lead_at, lead_ways, ways_at, Was}

-- ---- items that lead somewhere

exit_goes : (k : ItemKind) (n : ℕ) → (exit_of k ≡ Perhaps n) ⊎ (exit_of k ≡ Always n) → OnRow (GoesTo n) k
exit_goes (Code i m) n h = by_row (row_of i) h where
  by_row : (r : Row) → (row_exit r ≡ Perhaps n) ⊎ (row_exit r ≡ Always n) → GoesTo n r
  by_row (Branches op a b t) (inl e) = cc
  by_row (Branches op a b t) (inr e) = cc
  by_row (Jumps t) (inl e) = cc
  by_row (Jumps t) (inr e) = cc
  by_row _ (inl e) = cc
  by_row _ (inr e) = cc
exit_goes (Mark v m) n (inl e) = cc
exit_goes (Mark v m) n (inr e) = cc
exit_goes (Phi p m) n (inl e) = cc
exit_goes (Phi p m) n (inr e) = cc

pub same_exit : (k l : ItemKind) (n : ℕ) → KindsEndAlike k l → (exit_of k ≡ Perhaps n) ⊎ (exit_of k ≡ Always n) →
    (exit_of l ≡ Perhaps n) ⊎ (exit_of l ≡ Always n)
same_exit (Code i m) (Code j o) n h e = by_rows (row_of i) (row_of j) h e where
  by_rows : (r q : Row) → SameEnd r q → (row_exit r ≡ Perhaps n) ⊎ (row_exit r ≡ Always n) → (row_exit q ≡ Perhaps n) ⊎ (row_exit q ≡ Always n)
  by_rows (Branches op a b t) (Branches op' a' b' t') h (inl e) = inl (ap Perhaps (sym h.1) ∙ e)
  by_rows (Branches op a b t) (Branches op' a' b' t') h (inr e) = cc
  by_rows (Jumps t) (Jumps t') h (inl e) = cc
  by_rows (Jumps t) (Jumps t') h (inr e) = inr (ap Always (sym h) ∙ e)
  by_rows (Returns v) (Returns w) h (inl e) = cc
  by_rows (Returns v) (Returns w) h (inr e) = cc
  by_rows _ _ h e = absurd h
same_exit (Code i m) (Mark v o) n h e = absurd h
same_exit (Code i m) (Phi p o) n h e = absurd h
same_exit (Mark v m) l n h e = absurd h
same_exit (Phi p m) l n h e = absurd h

nothing_in : (xs : List Item) (k : ℕ) → xs ≡ [] → suc k < suc (length xs) → ⊥
nothing_in [] k e lt = omega (arith, lt)
nothing_in (x ∷ xs) k e lt = cc

-- an item that leads to a block gives a way of its block
pub item_leads : (xs : List Item) (fall : Option ℕ) (j : Item) (n : ℕ) → EndsWell xs → Contains xs j →
    (exit_of j.kind ≡ Perhaps n) ⊎ (exit_of j.kind ≡ Always n) → LeadTo (ways_of xs fall) n
item_leads [] fall j n ends (k, lt, e) go = absurd (omega (arith, lt))
item_leads (x ∷ xs) fall j n ends (zero, lt, e) go =
    let at : (exit_of x.kind ≡ Perhaps n) ⊎ (exit_of x.kind ≡ Always n) =
    subst (λ (z : Item). (exit_of z.kind ≡ Perhaps n) ⊎ (exit_of z.kind ≡ Always n)) (sym e) go in
    elim at as (λ z. LeadTo (ways_by (exit_of x.kind) (first_of xs) (ways_of xs fall) fall) n) [
      | inl q ↦ subst (λ (z : Exit). LeadTo (ways_by z (first_of xs) (ways_of xs fall) fall) n) (sym q) (inl refl)
      | inr q ↦ subst (λ (z : Exit). LeadTo (ways_by z (first_of xs) (ways_of xs fall) fall) n) (sym q) (inr refl)
    ]
item_leads (x ∷ xs) fall j n ends (suc k, lt, e) go = by_exit (exit_of x.kind) ends.0 (item_leads xs fall j n ends.1 (k, omega (arith, lt), e) go) where
  by_exit : (q : Exit) → MayFollow q xs → LeadTo (ways_of xs fall) n → LeadTo (ways_by q (first_of xs) (ways_of xs fall) fall) n
  by_exit Onward may later = later
  by_exit (Perhaps t) may later = inr (by_rest xs may later) where
    by_rest : (ys : List Item) → IsJumpAtMost ys → LeadTo (ways_of ys fall) n → else_way (first_of ys) fall ≡ Some n
    by_rest [] may (inl q) = cc
    by_rest [] may (inr q) = q
    by_rest (y ∷ []) may l =
        let w = always_some (exit_of y.kind) may in
        by_way w.0 w.1 (subst (λ (z : Exit). LeadTo (ways_by z None (ways_of [] fall) fall) n) w.1 l) where
          by_way : (m : ℕ) → exit_of y.kind ≡ Always m → LeadTo (record { branch = None; onward = Some m }) n → always_to (exit_of y.kind) ≡ Some n
          by_way m q (inl r) = cc
          by_way m q (inr r) = ap always_to q ∙ r
    by_rest (y ∷ z ∷ zs) may l = absurd may
  by_exit (Always t) may later =
      absurd (nothing_in xs k may lt)
  by_exit Final may later =
      absurd (nothing_in xs k may lt)

-- a block that no item leaves for good falls
pub falls_on : (xs : List Item) (n : ℕ) → EndsWell xs → All (λ (i : Item). Leaves (exit_of i.kind) → ⊥) xs → LeadTo (ways_of xs (Some n)) n
falls_on [] n ends all = inr refl
falls_on (x ∷ xs) n ends all =
    by_exit (exit_of x.kind) ends.0 (All-head (λ (i : Item). Leaves (exit_of i.kind) → ⊥) x xs all)
    (falls_on xs n ends.1 (All-tail (λ (i : Item). Leaves (exit_of i.kind) → ⊥) x xs all)) where
      by_exit : (q : Exit) → MayFollow q xs → (Leaves q → ⊥) → LeadTo (ways_of xs (Some n)) n →
          LeadTo (ways_by q (first_of xs) (ways_of xs (Some n)) (Some n)) n
      by_exit Onward may stay later = later
      by_exit (Perhaps t) may stay later = inr (by_rest xs may (All-tail (λ (i : Item). Leaves (exit_of i.kind) → ⊥) x xs all)) where
        by_rest : (ys : List Item) → IsJumpAtMost ys → All (λ (i : Item). Leaves (exit_of i.kind) → ⊥) ys → else_way (first_of ys) (Some n) ≡ Some n
        by_rest [] may all = refl
        by_rest (y ∷ []) may all =
            let w = always_some (exit_of y.kind) may in
            absurd (All-head (λ (i : Item). Leaves (exit_of i.kind) → ⊥) y [] all (subst Leaves (sym w.1) tt))
        by_rest (y ∷ z ∷ zs) may all = absurd may
      by_exit (Always t) may stay later = absurd (stay tt)
      by_exit Final may stay later = absurd (stay tt)

-- ---- a way to a block that isn't next is an item

module _ (end : ℕ → ℕ) (next fall : Option ℕ) (source_end : Pos) (to : ℕ) (far : is_number next to ≡ false) where
  abbrev pub Going : List Item → Type 0
  Going ys = (y : Item) × Contains ys y × OnRow (GoesTo to) y.kind

  going_one : (y : Item) (ys : List Item) → (exit_of y.kind ≡ Perhaps to) ⊎ (exit_of y.kind ≡ Always to) → Going (y ∷ ys)
  going_one y ys e = (y, (0, omega arith, refl), exit_goes y.kind to e)

  going_more : (y : Item) (ys : List Item) → Going ys → Going (y ∷ ys)
  going_more y ys g = (g.0, (suc g.1.0, (let l = g.1.1 in omega (arith, l)), g.1.2), g.2)

  going_needed : (n : ℕ) (j : Item) → n ≡ to → exit_of j.kind ≡ Always n → Going (if_needed next n j)
  going_needed n j same e =
      subst (λ (z : Bool). Going (cond z [] (j ∷ []))) (sym (ap (is_number next) same ∙ far)) (going_one j [] (inr (e ∙ ap Always same)))

  abbrev branch_items : (x : Item) (xs : List Item) (u v : ℕ) (q r z : Bool) → List Item
  branch_items x xs u v q r z = cond q (if_needed next v (jump_for_branch source_end x (first_of xs) v)) (cond r (sent u x ∷ [])
      (cond z (turned v x ∷ []) (sent u x ∷ jump_at_end source_end (first_of xs) v ∷ [])))

  not_far : {P : Type 0} (n : ℕ) → n ≡ to → is_number next n ≡ true → P
  not_far n same e = let bad : true ≡ false = sym e ∙ ap (is_number next) same ∙ far in cc

  branch_going : (x : Item) (xs : List Item) (t u v : ℕ) → exit_of x.kind ≡ Perhaps t → IsJumpAtMost xs → (u ≡ to) ⊎ (v ≡ to) → (q r z : Bool) →
      nat_eq u v ≡ q → is_number next v ≡ r → is_number next u ≡ z → Going (branch_items x xs u v q r z)
  branch_going x xs t u v e may (inl h) true r z a b c =
      going_needed v (jump_for_branch source_end x (first_of xs) v) (sym (eqb-true u v a) ∙ h) (jump_exit source_end xs v may)
  branch_going x xs t u v e may (inr h) true r z a b c = going_needed v (jump_for_branch source_end x (first_of xs) v) h (jump_exit source_end xs v may)
  branch_going x xs t u v e may (inl h) false true z a b c = going_one (sent u x) [] (inl (sent_branch x.kind t u e ∙ ap Perhaps h))
  branch_going x xs t u v e may (inr h) false true z a b c = not_far v h b
  branch_going x xs t u v e may (inl h) false false true a b c = not_far u h c
  branch_going x xs t u v e may (inr h) false false true a b c = going_one (turned v x) [] (inl (turned_branch x.kind t v e ∙ ap Perhaps h))
  branch_going x xs t u v e may (inl h) false false false a b c =
      going_one (sent u x) (jump_at_end source_end (first_of xs) v ∷ []) (inl (sent_branch x.kind t u e ∙ ap Perhaps h))
  branch_going x xs t u v e may (inr h) false false false a b c =
      going_more (sent u x) (jump_at_end source_end (first_of xs) v ∷ [])
      (going_one (jump_at_end source_end (first_of xs) v) [] (inr (jump_exit source_end xs v may ∙ ap Always h)))

  pub way_goes : (xs : List Item) (n : ℕ) → EndsWell xs → (fall ≡ None → Closes xs) → LeadTo (ways_of xs fall) n → end n ≡ to →
      Going (rewritten end next fall source_end xs)
  way_goes [] n ends onto (inl e) same = cc
  way_goes [] n ends onto (inr e) same =
      subst (λ (o : Option ℕ). Going (plain_tail end next fall source_end None o)) (sym e)
      (going_needed (end n) (jump_at_end source_end None (end n)) same refl)
  way_goes (x ∷ xs) n ends onto l same = by_exit (exit_of x.kind) refl ends.0 l (λ into k. way_goes xs n ends.1 into k same) where
    below : exit_of x.kind ≡ Onward → fall ≡ None → Closes xs
    below e none = by_rest xs (onto none) where
      by_rest : (ys : List Item) → Closes (x ∷ ys) → Closes ys
      by_rest [] h = absurd (subst Leaves e h)
      by_rest (y ∷ ys) h = h

    by_exit : (q : Exit) → exit_of x.kind ≡ q → MayFollow q xs → LeadTo (ways_by q (first_of xs) (ways_of xs fall) fall) n →
        ((fall ≡ None → Closes xs) → LeadTo (ways_of xs fall) n → Going (rewritten end next fall source_end xs)) →
        Going (tail_by end next fall source_end q x (first_of xs) (rewritten end next fall source_end xs))
    by_exit Onward e may l later = going_more x (rewritten end next fall source_end xs) (later (below e) l)
    by_exit (Perhaps t) e may l later =
        let w = goes_else x t xs fall e may onto in
        subst (λ (o : Option ℕ). Going (branch_tail_to end next fall source_end x (first_of xs) t o)) (sym w.1)
        (branch_going x xs t (end t) (end w.0) e may (either t w.0 w.1 l) (nat_eq (end t) (end w.0)) (is_number next (end w.0)) (is_number next (end t))
        refl refl refl) where
          either : (t m : ℕ) → else_way (first_of xs) fall ≡ Some m → LeadTo (record { branch = Some t; onward = else_way (first_of xs) fall }) n →
              (end t ≡ to) ⊎ (end m ≡ to)
          either t m k (inl h) = let z : t ≡ n = cc in inl (ap end z ∙ same)
          either t m k (inr h) = let s : Some m ≡ Some n = sym k ∙ h in let z : m ≡ n = cc in inr (ap end z ∙ same)
    by_exit (Always t) e may (inl h) later = cc
    by_exit (Always t) e may (inr h) later =
        let z : t ≡ n = cc in going_needed (end t) (sent (end t) x) (ap end z ∙ same) (sent_jump x.kind t (end t) e)
    by_exit Final e may (inl h) later = cc
    by_exit Final e may (inr h) later = cc

-- ---- a block that was reached stays, or a way of one that stays ends where its way does

module _ (old : List Block) (apart : Rattle.mir_func.specs.Sound.AreApart (ids_of old)) (end : ℕ → ℕ) (stays : ℕ → Bool)
    (ends : (n : ℕ) → EndsAt (lead old) n (end n)) (reached : (n : ℕ) → Reached old end n → stays n ≡ true)
    (back : (n : ℕ) → stays n ≡ true → Reached old end n)
  where
    -- a way of a block that stays ends at e
    pub record WayTo (e : ℕ) : Type 0 where
      pub block : ℕ
      pub stay : stays block ≡ true
      pub ways : Ways
      pub has : ways_in old block ≡ Some ways
      pub to : ℕ
      pub leads : LeadTo ways to
      pub is_end : end to ≡ e

    pub way_from : (b n : ℕ) (w : Ways) → (stays b ≡ true) ⊎ WayTo (end b) → ways_in old b ≡ Some w → LeadTo w n → WayTo (end n)
    way_from b n w (inl s) e l = record { block = b; stay = s; ways = w; has = e; to = n; leads = l; is_end = refl }
    way_from b n w (inr way) e l = by_end (ends b) refl where
      stayed : end b ≡ b → stays b ≡ true
      stayed own = reached b (subst (Reached old end) (way.is_end ∙ own) (onward way.ways (back way.block way.stay) way.has way.leads))

      by_end : {m : ℕ} → EndsAt (lead old) b m → end b ≡ m → WayTo (end n)
      by_end (leads_nowhere h) q = record { block = b; stay = stayed q; ways = w; has = e; to = n; leads = l; is_end = refl }
      by_end (comes_round h) q = record { block = b; stay = stayed q; ways = w; has = e; to = n; leads = l; is_end = refl }
      by_end (goes_on {b = b'} {n = m} {e = z} h ne rest) q =
          let k = lead_at old apart b' m h in
          let only : Some w ≡ Some (record { branch = None; onward = Some m }) =
          sym e ∙ ways_at old b k.block k.rest k.at ∙ ap (λ (y : Ways). Some y) (lead_ways k.block.items (first_id k.rest) m k.leads) in
          let same_ways : w ≡ record { branch = None; onward = Some m } = cc in
          let go : LeadTo (record { branch = None; onward = Some m }) n = subst (λ (y : Ways). LeadTo y n) same_ways l in
          let to_m : m ≡ n = one go in
          let end_m : end m ≡ z = Rattle.fold_targets.proofs.Ways.one_end (lead old) (ends m) rest in
          record {
            block = way.block;
            stay = way.stay;
            ways = way.ways;
            has = way.has;
            to = way.to;
            leads = way.leads;
            is_end = way.is_end ∙ q ∙ sym end_m ∙ ap end to_m;
          } where
            one : {m : ℕ} → LeadTo (record { branch = None; onward = Some m }) n → m ≡ n
            one (inl h) = cc
            one (inr h) = cc

    pub stays_or_way : {b : ℕ} → Was old apart b → (stays b ≡ true) ⊎ WayTo (end b)
    stays_or_way (first {n} e) = inl (reached n (first e))
    stays_or_way (onward {b} {n} w r e l) = inr (way_from b n w (stays_or_way r) e l)

-- ---- blocks in the order of the source's

first_by_ids : (bs cs : List Block) → ids_of bs ≡ ids_of cs → first_id bs ≡ first_id cs
first_by_ids [] [] e = refl
first_by_ids [] (c ∷ cs) e = cc
first_by_ids (b ∷ bs) [] e = cc
first_by_ids (b ∷ bs) (c ∷ cs) e = let id : b.id ≡ c.id = cc in ap (λ (n : ℕ). Some n) id

pub next_by_ids : (bs cs : List Block) → ids_of bs ≡ ids_of cs → (n : ℕ) (b c : Block) (brest crest : List Block) →
    Rattle.mir_func.specs.Graph.from_block bs n ≡ b ∷ brest → Rattle.mir_func.specs.Graph.from_block cs n ≡ c ∷ crest → first_id brest ≡ first_id crest
next_by_ids [] cs e n b c brest crest h k = cc
next_by_ids (x ∷ xs) [] e n b c brest crest h k = cc
next_by_ids (x ∷ xs) (y ∷ ys) e n b c brest crest h k =
    let id : x.id ≡ y.id = cc in
    let tails : ids_of xs ≡ ids_of ys = cc in
    by_test (nat_eq x.id n) tails h (subst (λ (m : ℕ). cond (nat_eq m n) (y ∷ ys) (Rattle.mir_func.specs.Graph.from_block ys n) ≡ c ∷ crest) (sym id) k)
    (λ h k. next_by_ids xs ys tails n b c brest crest h k) where
      by_test : (z : Bool) → ids_of xs ≡ ids_of ys → cond z (x ∷ xs) (Rattle.mir_func.specs.Graph.from_block xs n) ≡ b ∷ brest →
          cond z (y ∷ ys) (Rattle.mir_func.specs.Graph.from_block ys n) ≡ c ∷ crest →
          (Rattle.mir_func.specs.Graph.from_block xs n ≡ b ∷ brest → Rattle.mir_func.specs.Graph.from_block ys n ≡ c ∷ crest → first_id brest ≡ first_id
          crest) →
          first_id brest ≡ first_id crest
      by_test true tails h k later =
          let a : xs ≡ brest = cc in
          let d : ys ≡ crest = cc in
          ap first_id (sym a) ∙ first_by_ids xs ys tails ∙ ap first_id d
      by_test false tails h k later = later h k
