-- A folded function with its kills keeps each debug item, or its loss is told.
use Rattle.std.proofs.Common.{◌≡◌, ◌⊎◌, ℕ, suc, ◌+◌, List, [], ◌∷◌, map, slice_get, All, Contains, Option, Some, None, Bool, true, false}
use Rattle.std.proofs.Common.{cond, not, nat_eq, append-nil, refl, sym, ap, ◌∙◌, subst, inl, inr, eqb-true, eq-eqb, arith}
use Rattle.std.specs.Option.{is_some}
use Rattle.std.proofs.lemmas.List.Elements.{All-nil, All-head, All-tail, All-weaker, All-contains}
use Rattle.std.proofs.lemmas.Option.{slice_get-get_or}
use Rattle.rv64_instr.specs.DefsAndUses.{sets}
use Rattle.rv64_instr.specs.Instruction.{Instruction}
use Rattle.rv64_instr.specs.Row.{Row, Jumps, row_of}
use Rattle.mir_func.specs.declared.block.Block.{Block}
use Rattle.mir_func.specs.declared.debug_substitution.DebugSubstitution.{DebugSubstitution}
use Rattle.mir_func.specs.declared.item.Item.{Item}
use Rattle.mir_func.specs.declared.item.ItemKind.{ItemKind}
use Rattle.mir_func.specs.declared.item.ItemKind.TheVariants.{Code, Mark, Phi}
use Rattle.mir_func.specs.declared.location.Loc.{Loc}
use Rattle.mir_func.specs.declared.position.Pos.{Pos}
use Rattle.mir_func.specs.declared.position.Origin.{Origin}
use Rattle.mir_func.specs.declared.position.Origin.TheVariants.{Before}
use Rattle.mir_func.specs.Function.{Function}
use Rattle.mir_func.specs.Graph.{from_block}
use Rattle.mir_func.specs.Sound.{AreApart, ids_of, OriginIn, EndsWell, Closes, LastCloses, IsSound}
use Rattle.mir_func.specs.Positions.{position_of}
use Rattle.sem_mir.specs.Align.{is_code}
use Rattle.pass_trait.specs.declared.loss.Reason.TheVariants.{Bypassed, Unreachable}
use Rattle.pass_trait.specs.Rule.{IsJump, item}
use Rattle.pass_trait.specs.Causes.{IsJumpOrDebug, IsFewer}
use Rattle.pass_trait.specs.Debug.{IsKillAt, Becomes, code_goes, idle_goes, number_goes, mark_goes}
use Rattle.pass_trait.specs.Debug.{phi_goes, BecomeAll, over, next as step, BlocksBecome, none, stays as block_stays}
use Rattle.pass_trait.specs.Debug.{goes as block_goes, IsLoss}
use Rattle.fold_targets.specs.Leads.{first_id, lead}
use Rattle.fold_targets.proofs.Blocks.{apart_tail}
use Rattle.fold_targets.proofs.Ways.{test_of}
use Rattle.fold_rule.specs.Tails.{rewritten}
use Rattle.fold_rule.specs.Rule.{folded_block, staying, folded_blocks}
use Rattle.fold_rule_proof.specs.Kills.{kill_by, is_bypassed, kills, with_kills, IsFoldedWithKills}
use Rattle.fold_rule_proof.proofs.Kills.{ComesFrom, each_from}
use Rattle.fold_rule_proof.proofs.KillSound.{contains_at}
use Rattle.fold_proof.proofs.Placed.{place_of, made_block, made}
use Rattle.fold_proof.specs.Debug.{IsPassed, IsLostFor, fold_debug}
use Rattle.fold_proof.specs.Keeps.{FoldedKeepsItems}
use Rattle.fold_proof.proofs.Passing.{c, new_is, gone_reason, passed_jumps, stays_unlost}
use Rattle.fold_proof.proofs.Fewer.{same_origin, home_of, fewer_staying, more_staying, fewer_gone}
use Rattle.fold_proof.proofs.Becoming.{become}
use Rattle.fold_proof.proofs.Losing.{stands_in, told, said, caused}
use Rattle.fold_proof.proofs.Growing.{all_of}
use Rattle.fold_proof.proofs.Gone.{four}

jump_sets : (r : Row) → IsJump r → sets r ≡ []
jump_sets (Jumps t) h = refl
jump_sets _ h = absurd h

module _ (f g : Function) (subs : List DebugSubstitution) (sound : IsSound f) (h : IsFoldedWithKills f g) where
  abbrev old : List Block
  old = f.blocks

  abbrev end : ℕ → ℕ
  end = h.folded.end

  abbrev stays : ℕ → Bool
  stays = h.folded.stays

  abbrev was : ℕ → Bool
  was = h.was

  abbrev ch : Rattle.pass_trait.specs.Change.Change
  ch = c f g subs sound h

  abbrev put : Block → Block
  put = with_kills end was old

  -- ---- kills

  passed_by : (e : ℕ) (b : Block) → is_bypassed end was old e b ≡ true → IsPassed old b.id
  passed_by e b t =
      let w = four (was b.id) (is_some (lead old b.id)) (nat_eq (end b.id) e) (not (nat_eq b.id e)) t in
      let at : end b.id ≡ e = eqb-true (end b.id) e w.1 in
      record {
        reached = (h.reached b.id).0 w.0;
        end = end b.id;
        ends = h.folded.ends b.id;
        elsewhere = λ own. (let k = eq-eqb b.id e (own ∙ at) in let bad : false ≡ true = sym (ap not k) ∙ w.2 in cc);
      }

  kill_at : (e : ℕ) (i : Item) → ComesFrom end was old e i → IsKillAt fold_debug ch e i
  kill_at e i w = by_kind w.item.kind w.item.origin w.item.loc stands w.kill where
    n : ℕ
    n = w.stood.0

    at : Pos
    at = record { block = w.block.id; item = n }

    stands : Rattle.pass_trait.specs.Rule.StandsAt f at w.item
    stands = stands_in f g subs sound h w.block w.member n w.item (slice_get-get_or w.block.items n w.item w.stood.1 ∙ ap (λ (z : Item). Some z) w.stood.2)

    passed : IsPassed old w.block.id
    passed = passed_by e w.block w.bypassed

    by_kind : (k : ItemKind) (o : Origin) (l : Loc) → Rattle.pass_trait.specs.Rule.StandsAt f at (item k o l) → kill_by e k l ≡ Some i →
        IsKillAt fold_debug ch e i
    by_kind (Mark v m) o l s q =
        let same : item (Mark v Rattle.mir_func.specs.declared.variable.MarkValue.TheVariants.Nothing) (Before (record { block = e; item = 0 })) l ≡ i = cc in
        subst (IsKillAt fold_debug ch e) same ((at, m, o, l, s, record { found = item (Mark v m) o l; stands = s; why = passed; is = refl }), refl)
    by_kind (Phi p k) o l s q =
        let same : item (Phi None k) (Before (record { block = e; item = 0 })) Rattle.mir_func.specs.declared.location.Loc.TheVariants.Absent ≡ i = cc in
        subst (IsKillAt fold_debug ch e) same ((at, record { found = item (Phi p k) o l; stands = s; why = passed; is = refl }), refl)
    by_kind (Code x k) o l s q = cc

  -- ---- a block that is gone

  module _ (b : Block) (rest : List Block) (at : from_block old b.id ≡ b ∷ rest) (member : Contains old b) (out : stays b.id ≡ false) where
    abbrev place : ℕ → Pos
    place n = record { block = b.id; item = n }

    abbrev Gone : ℕ → Item → Type 0
    Gone n x = Becomes fold_debug ch (place n) x []

    -- less code of its origin is left
    fewer : (n : ℕ) (i : Instruction) (k : Option ℕ) (o : Origin) (l : Loc) → slice_get b.items n ≡ Some (item (Code i k) o l) → IsFewer ch is_code o
    fewer n i k o l e =
        let x : Item = item (Code i k) o l in
        let inside = contains_at b.items n x e in
        let homes = All-contains (λ (d : Block). All (λ (j : Item). OriginIn d j.origin) d.items) old b sound.origins member in
        let home = home_of b o (All-contains (λ (j : Item). OriginIn b j.origin) b.items x homes inside) in
        fewer_gone is_code o f g subs sound h (λ k t. t) b x member inside out home (same_origin o)

    passed_item : (n : ℕ) → IsPassed old b.id → (k : ItemKind) (o : Origin) (l : Loc) → slice_get b.items n ≡ Some (item k o l) →
        Rattle.pass_trait.specs.Rule.StandsAt f (place n) (item k o l) → Gone n (item k o l)
    passed_item n p (Mark v m) o l e s = mark_goes Bypassed refl (record { found = item (Mark v m) o l; stands = s; why = p; is = refl })
    passed_item n p (Phi q k) o l e s = phi_goes Bypassed refl (record { found = item (Phi q k) o l; stands = s; why = p; is = refl })
    passed_item n p (Code i None) o l e s = code_goes (λ k z. z) (inl (fewer n i None o l e))
    passed_item n p (Code i (Some k)) o l e s =
        let x : Item = item (Code i (Some k)) o l in
        let inside = contains_at b.items n x e in
        let jump : IsJump (row_of i) = All-contains (λ (j : Item). IsJumpOrDebug j.kind) b.items x (passed_jumps f g subs sound h b.id p b rest at) inside in
        idle_goes (jump_sets (row_of i) jump) (inl (fewer n i (Some k) o l e))

    unreached_item : (n : ℕ) → IsLostFor old b.id Unreachable → (k : ItemKind) (o : Origin) (l : Loc) → slice_get b.items n ≡ Some (item k o l) →
        Rattle.pass_trait.specs.Rule.StandsAt f (place n) (item k o l) → Gone n (item k o l)
    unreached_item n p (Mark v m) o l e s = mark_goes Unreachable refl (record { found = item (Mark v m) o l; stands = s; why = p; is = refl })
    unreached_item n p (Phi q k) o l e s = phi_goes Unreachable refl (record { found = item (Phi q k) o l; stands = s; why = p; is = refl })
    unreached_item n p (Code i None) o l e s = code_goes (λ k z. z) (inl (fewer n i None o l e))
    unreached_item n p (Code i (Some k)) o l e s =
        number_goes k Unreachable refl refl (record { found = item (Code i (Some k)) o l; stands = s; why = p; is = refl })

    gone_item : (n : ℕ) (x : Item) → slice_get b.items n ≡ Some x → Gone n x
    gone_item n x e =
        let s = stands_in f g subs sound h b member n x e in
        elim (gone_reason f g subs sound h b.id out) as (λ z. Gone n x) [
          | inl p ↦ passed_item n p x.kind x.origin x.loc e s
          | inr p ↦ unreached_item n p x.kind x.origin x.loc e s
        ]

    all_gone : (xs : List Item) (n : ℕ) → ((k : ℕ) (x : Item) → slice_get xs k ≡ Some x → slice_get b.items (n + k) ≡ Some x) →
        BecomeAll fold_debug ch b.id n xs []
    all_gone [] n here = over
    all_gone (x ∷ xs) n here =
        let first : n + 0 ≡ n = omega arith in
        step (gone_item n x (subst (λ (m : ℕ). slice_get b.items m ≡ Some x) first (here 0 x refl)))
        (all_gone xs (suc n) (λ k y e. (let more : n + suc k ≡ suc n + k = omega arith in
        subst (λ (m : ℕ). slice_get b.items m ≡ Some y) more (here (suc k) y e))))

  -- ---- all blocks

  abbrev Last : List Block → Type 0
  Last bs = (bs ≡ []) ⊎ LastCloses bs

  closing : (b : Block) (bs : List Block) → Last (b ∷ bs) → LastCloses (b ∷ bs)
  closing b bs (inl e) = cc
  closing b bs (inr l) = l

  tail_of : (b : Block) (bs : List Block) → LastCloses (b ∷ bs) → Last bs
  tail_of b [] l = inl refl
  tail_of b (d ∷ ds) l = inr l

  onto : (b : Block) (bs : List Block) → LastCloses (b ∷ bs) → first_id bs ≡ None → Closes b.items
  onto b [] l e = l
  onto b (d ∷ ds) l e = cc

  abbrev Within : List Block → Type 0
  Within bs = (n : ℕ) (d : Block) (ds : List Block) → from_block bs n ≡ d ∷ ds → from_block old n ≡ d ∷ ds

  within_tail : (b : Block) (bs : List Block) → AreApart (ids_of (b ∷ bs)) → Within (b ∷ bs) → Within bs
  within_tail b bs apart within n d ds e = elim (test_of b.id n (nat_eq b.id n) refl) as (λ z. from_block old n ≡ d ∷ ds) [
    | inl w ↦ (let k = place_of bs n d ds e in
        let bad : 0 ≡ suc k.0 = apart 0 (suc k.0) n (ap (λ (z : ℕ). Some z) w.1) k.1 in
        absurd (omega (arith, bad)))
    | inr w ↦ within n d ds (ap (λ (z : Bool). cond z (b ∷ bs) (from_block bs n)) w.0 ∙ e)
  ]

  become_all : (bs : List Block) → AreApart (ids_of bs) → All (λ (b : Block). EndsWell b.items) bs → Last bs → ((b : Block) → Contains bs b → Contains old b) →
      Within bs → BlocksBecome fold_debug ch bs (made end stays was old bs)
  become_all [] apart ends last sub within = none
  become_all (b ∷ bs) apart ends last sub within =
      by_stay (stays b.id) refl (become_all bs (apart_tail b.id (ids_of bs) apart) (All-tail (λ (b : Block). EndsWell b.items) b bs ends)
      (tail_of b bs (closing b bs last)) (λ d k. sub d (suc k.0, (let lt = k.1 in omega (arith, lt)), k.2)) (within_tail b bs apart within)) where
        at : from_block old b.id ≡ b ∷ bs
        at = within b.id b bs (ap (λ (z : Bool). cond z (b ∷ bs) (from_block bs b.id)) (eq-eqb b.id b.id refl))

        member : Contains old b
        member = sub b (0, omega arith, refl)

        source_end : Pos
        source_end = record { block = b.id; item = b.source_end }

        anew : List Item
        anew = rewritten end (first_id (staying stays bs)) (first_id bs) source_end b.items

        stay : stays b.id ≡ true → BlocksBecome fold_debug ch bs (made end stays was old bs) →
            BlocksBecome fold_debug ch (b ∷ bs) (made_block end stays was old b bs ∷ made end stays was old bs)
        stay s rest = block_stays (kills end was old b.id) anew refl refl refl (end, was, h.folded.ends, h.reached, refl)
            (All-weaker (ComesFrom end was old b.id) (IsKillAt fold_debug ch b.id) (kill_at b.id) (kills end was old b.id) (each_from end was old b.id))
            (become ch b.id (λ n loss l. stays_unlost f g subs sound h b.id loss.reason s l.why) end (first_id (staying stays bs))
            (first_id bs) source_end b.items 0 refl
            (All-head (λ (b : Block). EndsWell b.items) b bs ends) (onto b bs (closing b bs last))
            (All-weaker (λ (i : Item). OriginIn b i.origin) (λ (i : Item). (position_of i.origin).block ≡ b.id) (λ i o. home_of b i.origin o) b.items
            (All-contains (λ (d : Block). All (λ (i : Item). OriginIn d i.origin) d.items) old b sound.origins member))
            (record {
              less = λ test o code home less. fewer_staying test o f g subs sound h code b bs at member s home less;
              more = λ test o code home more. more_staying test o f g subs sound h code b bs at s home more;
            })) rest

        by_stay : (z : Bool) → stays b.id ≡ z → BlocksBecome fold_debug ch bs (made end stays was old bs) →
            BlocksBecome fold_debug ch (b ∷ bs) (map put (cond z (folded_block end (first_id (staying stays bs)) (first_id bs) b ∷ folded_blocks end stays bs)
            (folded_blocks end stays bs)))
        by_stay true s rest = stay s rest
        by_stay false s rest = block_goes (all_gone b bs at member s b.items 0 (λ k x e. (let same : 0 + k ≡ k = omega arith in
            subst (λ (m : ℕ). slice_get b.items m ≡ Some x) (sym same) e))) rest

pub keeps_items : FoldedKeepsItems
keeps_items f g subs losses sound h ordered each = record {
  blocks = subst (λ (bs : List Block). BlocksBecome fold_debug (c f g subs sound h) f.blocks bs) (sym (new_is f g subs sound h))
      (become_all f g subs sound h f.blocks sound.blocks_apart sound.ends (inr sound.last) (λ b k. k) (λ n d ds e. e));
  subs = ([], sym (append-nil subs), refl, All-nil _);
  said = all_of (IsLoss fold_debug (c f g subs sound h)) losses (λ l k. inl (said f g subs sound h l ((each l).0 k)));
  told = λ loss l. elim l as (λ z. Contains losses loss) [
    | inl w ↦ (each loss).1 (told f g subs sound h w.0 loss w.1)
    | inr w ↦ absurd w.3
  ];
  ordered = ordered;
  caused = λ at loss l. caused f g subs sound h at loss l;
  left = λ r why z. absurd z;
  spilled = λ r slot z. absurd z;
  renamed = λ r now z. absurd z;
}
