-- Which blocks stay: those that were reached and aren't bypassed. The others are gone, and why.
use Rattle.std.proofs.Common.{◌≡◌, ◌⊎◌, ℕ, List, [], ◌∷◌, map, All, Option, Some, None, Bool, true, false, cond, not, ◌&&◌}
use Rattle.std.proofs.Common.{nat_eq, refl, sym, ap, ◌∙◌, subst, inl, inr, ne_eqb}
use Rattle.std.specs.Option.{is_some}
use Rattle.rv64_instr.specs.Row.{Row, Jumps, row_of}
use Rattle.mir_func.specs.declared.block.Block.{Block}
use Rattle.mir_func.specs.declared.debug_substitution.DebugSubstitution.{DebugSubstitution}
use Rattle.mir_func.specs.declared.exit.Exit.TheVariants.{Always}
use Rattle.mir_func.specs.declared.item.Item.{Item}
use Rattle.mir_func.specs.declared.item.ItemKind.{ItemKind}
use Rattle.mir_func.specs.declared.item.ItemKind.TheVariants.{Code, Mark, Phi}
use Rattle.mir_func.specs.Exits.{row_exit, exit_of}
use Rattle.mir_func.specs.Function.{Function}
use Rattle.mir_func.specs.Graph.{from_block}
use Rattle.mir_func.specs.Resolve.{resolve}
use Rattle.mir_func.specs.Sound.{ids_of, MayFollow, EndsWell, IsSound}
use Rattle.sem_mir.proofs.Reading.{found_in}
use Rattle.std.proofs.lemmas.List.Elements.{All-nil, All-cons, All-contains}
use Rattle.pass_trait.specs.Change.{Change, change}
use Rattle.pass_trait.specs.Rule.{IsJump}
use Rattle.pass_trait.specs.Causes.{IsJumpOrDebug, IsReached, IsGoneBlock, IsBypassed}
use Rattle.pass_trait.specs.declared.loss.Reason.{Reason}
use Rattle.pass_trait.specs.declared.loss.Reason.TheVariants.{Bypassed, Unreachable}
use Rattle.fold_targets.specs.Ways.{leads_nowhere}
use Rattle.fold_targets.specs.Leads.{first_id, lead_by, lead_of, lead}
use Rattle.fold_targets.proofs.Ways.{one_end}
use Rattle.fold_rule.specs.Reached.{Reached, onward}
use Rattle.fold_rule_proof.proofs.Blocks.{has_from}
use Rattle.fold_rule_proof.specs.Kills.{with_kills, IsFoldedWithKills}
use Rattle.fold_proof.proofs.Placed.{found_at, made, made_gone}
use Rattle.fold_proof.proofs.Ways.{always_is, lead_at, was_before, staying_end}
use Rattle.fold_proof.proofs.Back.{stays_or_way}
use Rattle.fold_proof.specs.Lost.{reason_for}
use Rattle.fold_proof.specs.Debug.{IsPassed, IsLostFor}
use Rattle.fold_proof.proofs.Reaching.{reached_leads, leads_reached}

always_jumps : (r : Row) (n : ℕ) → row_exit r ≡ Always n → IsJump r
always_jumps (Jumps t) n e = tt
always_jumps _ n e = cc

-- a block that leads on has a jump and debug items alone
leading_items : (xs : List Item) (next : Option ℕ) (m : ℕ) → EndsWell xs → lead_of xs next ≡ Some m → All (λ (i : Item). IsJumpOrDebug i.kind) xs
leading_items [] next m ends e = All-nil (λ (i : Item). IsJumpOrDebug i.kind)
leading_items (x ∷ xs) next m ends e = by_kind x.kind refl ends.0 e (leading_items xs next m ends.1) where
  Each : Item → Type 0
  Each i = IsJumpOrDebug i.kind

  with_first : IsJumpOrDebug x.kind → All Each xs → All Each (x ∷ xs)
  with_first one more = All-cons Each x xs one more

  alone : (ys : List Item) → ys ≡ [] → All Each ys
  alone [] e = All-nil Each
  alone (y ∷ ys) e = cc

  by_kind : (k : ItemKind) → x.kind ≡ k → MayFollow (exit_of k) xs → lead_by k (lead_of xs next) ≡ Some m → (lead_of xs next ≡ Some m → All Each xs) →
      All Each (x ∷ xs)
  by_kind (Code i n) k may h later =
      let exit = always_is (row_exit (row_of i)) m h in
      with_first (subst IsJumpOrDebug (sym k) (always_jumps (row_of i) m exit))
      (alone xs (subst (λ (z : Rattle.mir_func.specs.declared.exit.Exit.Exit). MayFollow z xs) exit may))
  by_kind (Mark v n) k may h later = with_first (subst IsJumpOrDebug (sym k) tt) (later h)
  by_kind (Phi p n) k may h later = with_first (subst IsJumpOrDebug (sym k) tt) (later h)

module _ (f g : Function) (subs : List DebugSubstitution) (sound : IsSound f) (h : IsFoldedWithKills f g) where
  abbrev pub old : List Block
  old = f.blocks

  abbrev pub end : ℕ → ℕ
  end = h.folded.end

  abbrev pub stays : ℕ → Bool
  stays = h.folded.stays

  abbrev pub was : ℕ → Bool
  was = h.was

  abbrev pub Was : ℕ → Type 0
  Was n = Reached old (λ m. m) n

  abbrev pub c : Change
  c = change f subs g subs

  pub new_is : g.blocks ≡ made end stays was old old
  new_is = ap (λ (z : Function). z.blocks) h.killed ∙ ap (map (with_kills end was old)) h.folded.blocks

  first_nowhere : (n : ℕ) → first_id old ≡ Some n → lead old n ≡ None
  first_nowhere n e = by_lead (lead old n) refl where
    by_lead : (o : Option ℕ) → lead old n ≡ o → lead old n ≡ None
    by_lead None k = k
    by_lead (Some m) k = absurd ((lead_at old sound.blocks_apart n m k).later e)

  -- what stays was reached, and isn't bypassed
  pub stays_was : (n : ℕ) → stays n ≡ true → Was n
  stays_was n s = was_before old sound.blocks_apart end h.folded.ends ((h.folded.reached n).0 s)

  pub stays_own : (n : ℕ) → stays n ≡ true → IsPassed old n → ⊥
  stays_own n s p = elim (staying_end old end h.folded.ends ((h.folded.reached n).0 s)) as (λ z. ⊥) [
    | inl e ↦ p.elsewhere (one_end (lead old) (leads_nowhere (first_nowhere n e)) p.ends)
    | inr e ↦ p.elsewhere (sym e ∙ one_end (lead old) (h.folded.ends n) p.ends)
  ]

  -- what was reached stays or is bypassed
  pub gone_passed : (n : ℕ) → stays n ≡ false → Was n → IsPassed old n
  gone_passed n s r = record { reached = r; end = end n; ends = h.folded.ends n; elsewhere = λ own. not_own (sym own) } where
    clash : stays n ≡ true → ⊥
    clash t = let bad : true ≡ false = sym t ∙ s in cc

    not_own : end n ≡ n → ⊥
    not_own own =
        elim (stays_or_way old sound.blocks_apart end stays h.folded.ends (λ m k. (h.folded.reached m).1 k) (λ m k. (h.folded.reached m).0 k) r) as (λ z. ⊥) [
          | inl t ↦ clash t
          | inr w ↦ clash ((h.folded.reached n).1 (subst (Reached old end) (w.is_end ∙ own)
              (onward w.ways ((h.folded.reached w.block).0 w.stay) w.has w.leads)))
        ]

  pub passed_gone : (n : ℕ) → IsPassed old n → stays n ≡ false
  passed_gone n p = by_stay (stays n) refl where
    by_stay : (z : Bool) → stays n ≡ z → stays n ≡ false
    by_stay true s = absurd (stays_own n s p)
    by_stay false s = s

  pub unreached_gone : (n : ℕ) → (Was n → ⊥) → stays n ≡ false
  unreached_gone n out = by_stay (stays n) refl where
    by_stay : (z : Bool) → stays n ≡ z → stays n ≡ false
    by_stay true s = absurd (out (stays_was n s))
    by_stay false s = s

  -- ---- as causes

  pub gone_block : (n : ℕ) → stays n ≡ false → IsGoneBlock c n
  gone_block n s member =
      let k = has_from (ids_of g.blocks) n member in
      let w = found_at g.blocks n k.0 k.1 in
      let none : from_block g.blocks n ≡ [] = ap (λ (bs : List Block). from_block bs n) new_is ∙ made_gone end stays was old old n s in
      let bad : [] ≡ w.block ∷ w.rest = sym none ∙ w.at in
      cc

  pub is_reached : (n : ℕ) → Was n → IsReached c n
  is_reached n r = reached_leads f sound (resolve subs) r

  pub not_reached : (n : ℕ) → (Was n → ⊥) → IsReached c n → ⊥
  not_reached n out path = out (leads_reached f sound (resolve subs) n path)

  pub passed_block : (n : ℕ) → IsPassed old n → (b : Block) × (b.id ≡ n) × IsBypassed c b
  passed_block n p = by_lead (lead old n) refl where
    by_lead : (o : Option ℕ) → lead old n ≡ o → (b : Block) × (b.id ≡ n) × IsBypassed c b
    by_lead None k = absurd (p.elsewhere (one_end (lead old) (leads_nowhere k) p.ends))
    by_lead (Some m) k =
        let w = lead_at old sound.blocks_apart n m k in
        let found = found_in old n w.block w.rest w.at in
        let id : w.block.id ≡ n = found.1 in (
          w.block,
          id,
          record {
            stood = found.0;
            jumps = leading_items w.block.items (first_id w.rest) m (All-contains (λ (b : Block). EndsWell b.items) old w.block sound.ends found.0) w.leads;
            reached = subst (IsReached c) (sym id) (is_reached n p.reached);
            gone = subst (IsGoneBlock c) (sym id) (gone_block n (passed_gone n p));
          },
        )

  pub passed_jumps : (n : ℕ) → IsPassed old n → (b : Block) (rest : List Block) → from_block old n ≡ b ∷ rest → All (λ (i : Item). IsJumpOrDebug i.kind) b.items
  passed_jumps n p b rest at = by_lead (lead old n) refl where
    by_lead : (o : Option ℕ) → lead old n ≡ o → All (λ (i : Item). IsJumpOrDebug i.kind) b.items
    by_lead None k = absurd (p.elsewhere (one_end (lead old) (leads_nowhere k) p.ends))
    by_lead (Some m) k =
        let w = lead_at old sound.blocks_apart n m k in
        let lists : w.block ∷ w.rest ≡ b ∷ rest = sym w.at ∙ at in
        let same : w.block ≡ b = cc in
        let member = (found_in old n w.block w.rest w.at).0 in
        subst (λ (d : Block). All (λ (i : Item). IsJumpOrDebug i.kind) d.items) same
        (leading_items w.block.items (first_id w.rest) m (All-contains (λ (d : Block). EndsWell d.items) old w.block sound.ends member) w.leads)

  -- ---- as they are looked for

  was_true : (n : ℕ) → Was n → was n ≡ true
  was_true n r = (h.reached n).1 r

  unreached_false : (n : ℕ) → (Was n → ⊥) → was n ≡ false
  unreached_false n out = by_was (was n) refl where
    by_was : (z : Bool) → was n ≡ z → was n ≡ false
    by_was true t = absurd (out ((h.reached n).0 t))
    by_was false t = t

  lead_some : (n : ℕ) → IsPassed old n → is_some (lead old n) ≡ true
  lead_some n p = by_lead (lead old n) refl where
    by_lead : (o : Option ℕ) → lead old n ≡ o → is_some o ≡ true
    by_lead None k = absurd (p.elsewhere (one_end (lead old) (leads_nowhere k) p.ends))
    by_lead (Some m) k = refl

  passed_reason : (n : ℕ) → IsPassed old n → reason_for end was (lead old) n ≡ Some Bypassed
  passed_reason n p =
      let w = was_true n p.reached in
      let l = lead_some n p in
      let far : nat_eq n (end n) ≡ false = ne_eqb n (end n) (λ e. p.elsewhere (e ∙ one_end (lead old) (h.folded.ends n) p.ends)) in
      ap (λ (z : Bool). cond z (cond (is_some (lead old n) && not (nat_eq n (end n))) (Some Bypassed) None) (Some Unreachable)) w ∙
      ap (λ (z : Bool). cond (z && not (nat_eq n (end n))) (Some Bypassed) None) l ∙
      ap (λ (z : Bool). cond (not z) (Some Bypassed) None) far

  pub lost_reason : (n : ℕ) (why : Reason) → IsLostFor old n why → reason_for end was (lead old) n ≡ Some why
  lost_reason n Bypassed p = passed_reason n p
  lost_reason n Unreachable out =
      ap (λ (z : Bool). cond z (cond (is_some (lead old n) && not (nat_eq n (end n))) (Some Bypassed) None) (Some Unreachable)) (unreached_false n out)
  lost_reason n _ p = absurd p

  pub reason_lost : (n : ℕ) (why : Reason) → reason_for end was (lead old) n ≡ Some why → IsLostFor old n why
  reason_lost n why e = by_was (was n) refl e where
    known : (why' : Reason) → why' ≡ why → IsLostFor old n why' → IsLostFor old n why
    known why' k l = subst (IsLostFor old n) k l

    by_tests : (l z : Bool) → nat_eq n (end n) ≡ z → was n ≡ true → cond (l && not z) (Some Bypassed) None ≡ Some why → IsLostFor old n why
    by_tests true false far w e =
        let same : Bypassed ≡ why = cc in
        known Bypassed same (record {
          reached = (h.reached n).0 w;
          end = end n;
          ends = h.folded.ends n;
          elsewhere = λ own. (let t = Rattle.std.proofs.Common.eq-eqb n (end n) own in let bad : true ≡ false = sym t ∙ far in cc);
        })
    by_tests true true far w e = cc
    by_tests false z far w e = cc

    by_was : (z : Bool) → was n ≡ z → cond z (cond (is_some (lead old n) && not (nat_eq n (end n))) (Some Bypassed) None) (Some Unreachable) ≡
        Some why → IsLostFor old n why
    by_was true w e = by_tests (is_some (lead old n)) (nat_eq n (end n)) refl w e
    by_was false w e =
        let same : Unreachable ≡ why = cc in
        known Unreachable same (λ r. (let bad : true ≡ false = sym (was_true n r) ∙ w in cc))

  -- what stays isn't lost
  pub stays_unlost : (n : ℕ) (why : Reason) → stays n ≡ true → IsLostFor old n why → ⊥
  stays_unlost n Bypassed s p = stays_own n s p
  stays_unlost n Unreachable s out = out (stays_was n s)
  stays_unlost n _ s p = p

  -- what is gone is lost
  pub gone_reason : (n : ℕ) → stays n ≡ false → IsPassed old n ⊎ (Was n → ⊥)
  gone_reason n s = by_was (was n) refl where
    by_was : (z : Bool) → was n ≡ z → IsPassed old n ⊎ (Was n → ⊥)
    by_was true w = inl (gone_passed n s ((h.reached n).0 w))
    by_was false w = inr (λ r. (let bad : true ≡ false = sym (was_true n r) ∙ w in cc))
