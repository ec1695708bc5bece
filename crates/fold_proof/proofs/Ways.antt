-- Which blocks are reached, before folding and after it.
use Rattle.std.proofs.Common.{◌≡◌, ◌⊎◌, ℕ, suc, List, [], ◌∷◌, All, Contains, Option, Some, None, Bool, true, false, cond, nat_eq, refl, sym, ap}
use Rattle.std.proofs.Common.{◌∙◌, subst, inl, inr, eq-eqb, ne_eqb, arith}
use Rattle.std.proofs.lemmas.List.Elements.{All-weaker}
use Rattle.rv64_instr.specs.Row.{row_of}
use Rattle.mir_func.specs.declared.block.Block.{Block}
use Rattle.mir_func.specs.declared.exit.Exit.{Exit}
use Rattle.mir_func.specs.declared.exit.Exit.TheVariants.{Onward, Perhaps, Always, Final}
use Rattle.mir_func.specs.declared.item.Item.{Item}
use Rattle.mir_func.specs.declared.item.ItemKind.{ItemKind}
use Rattle.mir_func.specs.declared.item.ItemKind.TheVariants.{Code, Mark, Phi}
use Rattle.mir_func.specs.Exits.{row_exit, exit_of}
use Rattle.mir_func.specs.Function.{Function}
use Rattle.mir_func.specs.Graph.{from_block}
use Rattle.mir_func.specs.Sound.{AreApart, ids_of, TargetsIn, IsSound}
use Rattle.fold_targets.specs.Ways.{OnWay, here, further, IsOnCircle, EndsAt, leads_nowhere, comes_round, goes_on}
use Rattle.fold_targets.specs.Leads.{first_id, always_to, lead_by, lead_of, lead_in, lead}
use Rattle.fold_targets.proofs.Ways.{test_of, one_end}
use Rattle.fold_rule.specs.declared.ways.Ways.{Ways}
use Rattle.fold_rule.specs.Tails.{first_of, ways_by, ways_of}
use Rattle.fold_rule.specs.Reached.{ways_in, Reached, first, onward}
use Rattle.fold_rule_proof.proofs.Rows.{GoesIn, targets_kind}
use Rattle.fold_rule_proof.proofs.Blocks.{has_from, contains_from, Targets, lead_stays, end_stays, ways_goes}
use Rattle.fold_proof.proofs.Placed.{Found, found_or_none, place_of, found_at}

pub always_is : (e : Exit) (n : ℕ) → always_to e ≡ Some n → e ≡ Always n
always_is (Always m) n e = let same : m ≡ n = cc in ap Always same
always_is (Perhaps m) n e = cc
always_is Onward n e = cc
always_is Final n e = cc

-- ---- by where a block stands

pub ways_at : (bs : List Block) (n : ℕ) (b : Block) (rest : List Block) → from_block bs n ≡ b ∷ rest → ways_in bs n ≡ Some (ways_of b.items (first_id rest))
ways_at [] n b rest e = cc
ways_at (a ∷ cs) n b rest e = by_test (nat_eq a.id n) e (ways_at cs n b rest) where
  by_test : (z : Bool) → cond z (a ∷ cs) (from_block cs n) ≡ b ∷ rest → (from_block cs n ≡ b ∷ rest → ways_in cs n ≡ Some (ways_of b.items (first_id rest))) →
      cond z (Some (ways_of a.items (first_id cs))) (ways_in cs n) ≡ Some (ways_of b.items (first_id rest))
  by_test true h later = let block : a ≡ b = cc in let tail : cs ≡ rest = cc in λ i. Some (ways_of (block i).items (first_id (tail i)))
  by_test false h later = later h

lead_in_at : (bs : List Block) (n : ℕ) (b : Block) (rest : List Block) → from_block bs n ≡ b ∷ rest → lead_in bs n ≡ lead_of b.items (first_id rest)
lead_in_at [] n b rest e = cc
lead_in_at (a ∷ cs) n b rest e = by_test (nat_eq a.id n) e (lead_in_at cs n b rest) where
  by_test : (z : Bool) → cond z (a ∷ cs) (from_block cs n) ≡ b ∷ rest → (from_block cs n ≡ b ∷ rest → lead_in cs n ≡ lead_of b.items (first_id rest)) →
      cond z (lead_of a.items (first_id cs)) (lead_in cs n) ≡ lead_of b.items (first_id rest)
  by_test true h later = let block : a ≡ b = cc in let tail : cs ≡ rest = cc in λ i. lead_of (block i).items (first_id (tail i))
  by_test false h later = later h

lead_in_none : (bs : List Block) (n : ℕ) → from_block bs n ≡ [] → lead_in bs n ≡ None
lead_in_none [] n e = refl
lead_in_none (a ∷ cs) n e = by_test (nat_eq a.id n) e (lead_in_none cs n) where
  by_test : (z : Bool) → cond z (a ∷ cs) (from_block cs n) ≡ [] → (from_block cs n ≡ [] → lead_in cs n ≡ None) →
      cond z (lead_of a.items (first_id cs)) (lead_in cs n) ≡ None
  by_test true h later = cc
  by_test false h later = later h

pub ways_found : (bs : List Block) (n : ℕ) (w : Ways) → ways_in bs n ≡ Some w → (f : Found bs n) × (w ≡ ways_of f.block.items (first_id f.rest))
ways_found [] n w e = cc
ways_found (a ∷ cs) n w e = elim (test_of a.id n (nat_eq a.id n) refl) as (λ z. (f : Found (a ∷ cs) n) × (w ≡ ways_of f.block.items (first_id f.rest))) [
  | inl t ↦ (let k : Some (ways_of a.items (first_id cs)) ≡ Some w =
      sym (ap (λ (z : Bool). cond z (Some (ways_of a.items (first_id cs))) (ways_in cs n)) t.0) ∙ e in
      let same : ways_of a.items (first_id cs) ≡ w = cc in
      (record { block = a; rest = cs; at = ap (λ (z : Bool). cond z (a ∷ cs) (from_block cs n)) t.0 }, sym same))
  | inr t ↦ (let k = ways_found cs n w (sym (ap (λ (z : Bool). cond z (Some (ways_of a.items (first_id cs))) (ways_in cs n)) t.0) ∙ e) in
      (record { block = k.0.block; rest = k.0.rest; at = ap (λ (z : Bool). cond z (a ∷ cs) (from_block cs n)) t.0 ∙ k.0.at }, k.1))
]

-- a block that leads on
pub record LeadsOn (bs : List Block) (n m : ℕ) : Type 0 where
  pub block : Block
  pub rest : List Block
  pub at : from_block bs n ≡ block ∷ rest
  pub leads : lead_of block.items (first_id rest) ≡ Some m
  pub later : first_id bs ≡ Some n → ⊥

pub lead_at : (bs : List Block) → AreApart (ids_of bs) → (n m : ℕ) → lead bs n ≡ Some m → LeadsOn bs n m
lead_at [] apart n m e = cc
lead_at (a ∷ cs) apart n m e = elim (found_or_none cs n) as (λ z. LeadsOn (a ∷ cs) n m) [
  | inr none ↦ (let bad : None ≡ Some m = sym (lead_in_none cs n none) ∙ e in cc)
  | inl w ↦ (let k = place_of cs n w.block w.rest w.at in
      let ne : a.id ≡ n → ⊥ = λ same. (let bad : 0 ≡ suc k.0 = apart 0 (suc k.0) n (ap (λ (z : ℕ). Some z) same) k.1 in omega (arith, bad)) in
      record {
        block = w.block;
        rest = w.rest;
        at = ap (λ (z : Bool). cond z (a ∷ cs) (from_block cs n)) (ne_eqb a.id n ne) ∙ w.at;
        leads = sym (lead_in_at cs n w.block w.rest w.at) ∙ e;
        later = λ h. ne cc;
      })
]

-- such a block has this way alone
pub lead_ways : (xs : List Item) (fall : Option ℕ) (m : ℕ) → lead_of xs fall ≡ Some m → ways_of xs fall ≡ record { branch = None; onward = Some m }
lead_ways [] fall m e = ap (λ (o : Option ℕ). record { branch = None; onward = o }) e
lead_ways (x ∷ xs) fall m e = by_kind x.kind e (lead_ways xs fall m) where
  by_kind : (k : ItemKind) → lead_by k (lead_of xs fall) ≡ Some m →
      (lead_of xs fall ≡ Some m → ways_of xs fall ≡ record { branch = None; onward = Some m }) →
      ways_by (exit_of k) (first_of xs) (ways_of xs fall) fall ≡ record { branch = None; onward = Some m }
  by_kind (Code i n) h later = ap (λ (z : Exit). ways_by z (first_of xs) (ways_of xs fall) fall) (always_is (row_exit (row_of i)) m h)
  by_kind (Mark v n) h later = later h
  by_kind (Phi p n) h later = later h

-- ---- ways

way_to_end : (to : ℕ → Option ℕ) → {n e : ℕ} → EndsAt to n e → OnWay to n e
way_to_end to (leads_nowhere h) = here
way_to_end to (comes_round h) = here
way_to_end to (goes_on h apart rest) = further h (way_to_end to rest)

-- where a way goes on, it ends elsewhere
pub ends_elsewhere : (to : ℕ → Option ℕ) → {b n e : ℕ} → to b ≡ Some n → (IsOnCircle to b → ⊥) → EndsAt to n e → b ≡ e → ⊥
ends_elsewhere to {b} {n} h apart rest same = apart (n, h, subst (OnWay to n) (sym same) (way_to_end to rest))

pub end_again : (to : ℕ → Option ℕ) → {n e : ℕ} → EndsAt to n e → EndsAt to e e
end_again to (leads_nowhere h) = leads_nowhere h
end_again to (comes_round h) = comes_round h
end_again to (goes_on h apart rest) = end_again to rest

-- a block stays only if it is the first one or the end of its own way
pub staying_end : (bs : List Block) (end : ℕ → ℕ) → ((n : ℕ) → EndsAt (lead bs) n (end n)) → {n : ℕ} → Reached bs end n →
    (first_id bs ≡ Some n) ⊎ (end n ≡ n)
staying_end bs end ends (first e) = inl e
staying_end bs end ends (onward {b} {n} w r e l) = inr (one_end (lead bs) (ends (end n)) (end_again (lead bs) (ends n)))

-- ---- reached

module _ (bs : List Block) (apart : AreApart (ids_of bs)) where
  abbrev pub Was : ℕ → Type 0
  Was n = Reached bs (λ m. m) n

  pub was_led : (n m : ℕ) → lead bs n ≡ Some m → Was n → Was m
  was_led n m e r =
      let w = lead_at bs apart n m e in
      onward {b = n} {n = m} (record { branch = None; onward = Some m }) r
      (ways_at bs n w.block w.rest w.at ∙ ap (λ (z : Ways). Some z) (lead_ways w.block.items (first_id w.rest) m w.leads)) (inr refl)

  pub was_end : {n e : ℕ} → EndsAt (lead bs) n e → Was n → Was e
  was_end (leads_nowhere h) r = r
  was_end (comes_round h) r = r
  was_end (goes_on {b} {n} {e} h ne rest) r = was_end rest (was_led b n h r)

  module _ (end : ℕ → ℕ) (ends : (n : ℕ) → EndsAt (lead bs) n (end n)) where
    pub was_before : {n : ℕ} → Reached bs end n → Was n
    was_before (first e) = first e
    was_before (onward {b} {n} w r e l) = was_end (ends n) (onward w (was_before r) e l)

    -- what is reached is a block
    pub reached_found : (targets : All (λ (b : Block). Targets (ids_of bs) b.items) bs) → {n : ℕ} → Reached bs end n → Found bs n
    reached_found targets (first {n} e) = by_blocks bs e where
      by_blocks : (cs : List Block) → first_id cs ≡ Some n → Found cs n
      by_blocks [] h = cc
      by_blocks (c ∷ cs) h = let same : c.id ≡ n = cc in
          record { block = c; rest = cs; at = ap (λ (z : Bool). cond z (c ∷ cs) (from_block cs n)) (eq-eqb c.id n same) }
    reached_found targets (onward {b} {n} w r e l) =
        let among : (m : ℕ) → Rattle.fold_rule_proof.proofs.Blocks.Has (ids_of bs) m → Contains (ids_of bs) m = λ m h. contains_from (ids_of bs) m h in
        let here : Contains (ids_of bs) n = ways_goes (ids_of bs) bs b n w targets among e l in
        let there : Contains (ids_of bs) (end n) = end_stays (ids_of bs) (lead bs)
        (λ q m t. lead_stays (ids_of bs) bs q m targets among t) (ends n) here in
        let k = has_from (ids_of bs) (end n) there in
        found_at bs (end n) k.0 k.1

pub targets_of : (f : Function) → IsSound f → All (λ (b : Block). Targets (ids_of f.blocks) b.items) f.blocks
targets_of f sound =
    All-weaker (λ (b : Block). All (λ (i : Item). TargetsIn (ids_of f.blocks) i.kind) b.items) (λ (b : Block). Targets (ids_of f.blocks) b.items)
    (λ b h. All-weaker (λ (i : Item). TargetsIn (ids_of f.blocks) i.kind) (λ (i : Item). GoesIn (ids_of f.blocks) (exit_of i.kind))
    (λ i g. targets_kind (ids_of f.blocks) i.kind g) b.items h) f.blocks sound.targets
