-- The run of a folded function.
use Rattle.std.proofs.Common.{◌≡◌, ℕ, suc, ◌+◌, List, [], ◌∷◌, ◌++◌, drop, All, Contains, Option, Some, None, Bool, true, false, cond, not, ◌&&◌}
use Rattle.std.proofs.Common.{nat_eq, refl, sym, ap, ◌∙◌, subst, inl, inr, eq-eqb, ne_eqb, arith}
use Rattle.std.specs.Option.{is_some}
use Rattle.std.proofs.lemmas.Bool.{eqb-true}
use Rattle.std.proofs.lemmas.List.Elements.{All-nil, All-head, All-tail}
use Rattle.rv64_instr.specs.Row.{row_of}
use Rattle.mir_func.specs.declared.block.Block.{Block}
use Rattle.mir_func.specs.declared.exit.Exit.{Exit}
use Rattle.mir_func.specs.declared.exit.Exit.TheVariants.{Onward, Perhaps, Always, Final}
use Rattle.mir_func.specs.declared.item.Item.{Item}
use Rattle.mir_func.specs.declared.item.ItemKind.{ItemKind}
use Rattle.mir_func.specs.declared.item.ItemKind.TheVariants.{Code, Mark, Phi}
use Rattle.mir_func.specs.declared.position.Pos.{Pos}
use Rattle.mir_func.specs.declared.position.Origin.TheVariants.{Before}
use Rattle.mir_func.specs.Exits.{row_exit, exit_of, IsAlways, Leaves as LeavesBlock}
use Rattle.mir_func.specs.Graph.{Program, Here, Outside, below, block_start, fetch_in, from_block, index_of, rest_in, rest_of}
use Rattle.mir_func.specs.Sound.{IsJumpAtMost, MayFollow, EndsWell, Closes, HasForm}
use Rattle.mir_func.specs.Positions.{position_of}
use Rattle.sem_mir.specs.State.{Core, State}
use Rattle.sem_mir.specs.Step.{Outcome, Falls, Goes, Gives, Traps, Asks, Breaks, do_item}
use Rattle.sem_mir.specs.Align.{is_code, ByItems, ByEnds, Since, After}
use Rattle.sem_mir.specs.Effects.{EndAlike}
use Rattle.sem_mir.proofs.Told.{TellsLess, SeesLess, item_less}
use Rattle.sem_simulation.specs.MatchStates.{Sides, since_item}
use Rattle.sem_simulation.specs.Rewired.{RewiredMatchStates, IsAbsent, Reaches, arrived, debug, jump, finish, Leaves, by_end, by_jump, by_branch, FallsTo}
use Rattle.sem_simulation.specs.Rewired.{DoAlike}
use Rattle.sem_simulation.specs.Rewired.{View, both, added, paired, closes, ended}
use Rattle.sem_simulation.proofs.Stations.{IsSyncPointOf, of_item, of_end, sync_point_is_of}
use Rattle.sem_simulation.proofs.Laid.{laid_out, from_home}
use Rattle.fold_targets.specs.Ways.{EndsAt, leads_nowhere, comes_round, goes_on}
use Rattle.fold_targets.specs.Leads.{first_id, always_to, lead_by, lead_of, lead}
use Rattle.fold_targets.proofs.Ways.{one_end}
use Rattle.fold_rule.specs.Turned.{to_block, sent, turned, made_jump}
use Rattle.fold_rule.specs.Tails.{first_of, else_way, ways_by, ways_of, is_number, if_needed, jump_at_end, jump_for_branch, branch_tail, plain_tail}
use Rattle.fold_rule.specs.Tails.{branch_tail_to, tail_by, rewritten}
use Rattle.fold_rule.specs.Reached.{LeadTo}
use Rattle.fold_rule.specs.Rule.{staying}
use Rattle.fold_rule_proof.proofs.Rows.{Leads}
use Rattle.fold_rule_proof.proofs.Tails.{always_some, goes_else, jump_exit}
use Rattle.fold_rule_proof.specs.Kills.{is_bypassed, kills}
use Rattle.fold_rule_proof.proofs.Kills.{IsKill}
use Rattle.fold_rule_proof.specs.Alike.{aimed_at, swapped}
use Rattle.fold_rule_proof.proofs.StepAlike.{items_do_alike, leads_either}
use Rattle.fold_proof.proofs.Told.{MatchCores, kin_itself, kin_more, kin_less, kin_shows, kin_kill, kin_debug, kin_jump, kin_branch, kin_new_jump}
use Rattle.fold_proof.proofs.Killed.{covered}
use Rattle.fold_proof.proofs.Placed.{falls_from, made_block, made_at, made_gone, made_first}
use Rattle.fold_proof.proofs.Ways.{always_is, LeadsOn, lead_at, ends_elsewhere, staying_end, Was, was_led}
use Rattle.fold_proof.proofs.Folding.{Folding, old, end, stays, was, new, fp, gp, ends, origins_new, form_at}
use Rattle.fold_proof.proofs.Folding.{after_end, end_kind, code_leads, code_final, branch_no_jump, still_code, onward_never_goes, final_never_falls}
use Rattle.fold_proof.proofs.Folding.{final_never_goes}
use Rattle.sem_mir.proofs.Reading.{found_in}

module _ (fold : Folding) (s : State) where
  abbrev f : Program
  f = fp fold

  abbrev g : Program
  g = gp fold

  abbrev rf : Pos → List Item
  rf = rest_of (old fold)

  abbrev rg : Pos → List Item
  rg = rest_of (new fold)

  abbrev apart : Rattle.mir_func.specs.Sound.AreApart (Rattle.mir_func.specs.Sound.ids_of (old fold))
  apart = fold.sound.blocks_apart

  abbrev to_end : ℕ → ℕ
  to_end = end fold

  abbrev lost : ℕ → List Item
  lost e = kills (end fold) (was fold) (old fold) e

  abbrev WasReached : ℕ → Type 0
  WasReached n = Was (old fold) apart n

  abbrev pub sides : Sides
  sides = record { old = record { program = f; rest = rf; start = s }; new = record { program = g; rest = rg; start = s } }

  -- the next block among those that stay
  abbrev next_of : List Block → Option ℕ
  next_of after = first_id (staying (stays fold) after)

  abbrev silent_of : Block → Pos
  silent_of b = record { block = b.id; item = b.source_end }

  abbrev anew : Block → List Block → List Item → List Item
  anew b after xs = rewritten to_end (next_of after) (first_id after) (silent_of b) xs

  -- a block that stays: of the old one some items are left, of the new one these with their end written anew, after kills to come
  pub record Rest (ks : List Item) (b : ℕ) (xs ys : List Item) : Type 0 where
    pub block : Block
    pub after : List Block
    pub at : from_block (old fold) b ≡ block ∷ after
    pub stay : stays fold b ≡ true
    pub pos : Pos
    pub in_block : pos.block ≡ b
    pub here : rf pos ≡ xs
    pub ends : EndsWell xs
    pub onto : first_id after ≡ None → Closes xs
    pub ways : (n : ℕ) → LeadTo (ways_of xs (first_id after)) n → (stays fold (to_end n) ≡ true) × WasReached n
    pub killed : All (IsKill b) ks
    pub same : ys ≡ ks ++ anew block after xs

  abbrev pub match_states : RewiredMatchStates
  match_states = record {
    match_states = record {
      Stage = List Item;
      entry = lost;
      MatchItems = Rest;
      MatchCores = λ k b xs ys c d. MatchCores k c d;
    };
    Has = λ n. stays fold n ≡ true;
    Ways = λ e c d. MatchCores (lost e) c d;
  }

  abbrev place : ℕ → ℕ
  place = index_of (new fold)

  abbrev To : ℕ → Pos → Type 0
  To e p = Reaches sides place match_states e p

  -- ---- ways

  -- of a block that doesn't stay nothing is left
  absent : (q : Pos) → stays fold q.block ≡ false → IsAbsent sides place match_states q
  absent q gone o = by_sync_point (sync_point_is_of ByItems g o.place o.sync_point o.stands) where
    empty : (x : Item) → o.place.block ≡ q.block → g.fetch o.place ≡ Here x → ⊥
    empty x same at =
        let none : from_block (new fold) o.place.block ≡ [] =
        made_gone to_end (stays fold) (was fold) (old fold) (old fold) o.place.block (ap (stays fold) same ∙ gone) in
        let bad : Outside ≡ Here x = ap (λ (z : List Block). fetch_in z o.place.item) (sym none) ∙ at in
        cc

    by_sync_point : IsSyncPointOf ByItems g o.place o.sync_point → ⊥
    by_sync_point (of_item x at code st) =
        empty x (sym (from_home false (new fold) fold.resolve (origins_new fold) o.place x at) ∙
        ap (λ (z : Rattle.sem_mir.specs.Align.SyncPoint). z.pos.block) st ∙ ap (λ (z : Pos). z.block) o.from) at
    by_sync_point (of_end k n at ends st) = cc

  -- control goes on from what is left of a block that is bypassed
  module _ (e n b : ℕ) (block : Block) (after : List Block) (at : from_block (old fold) b ≡ block ∷ after) (gone : stays fold b ≡ false)
      (bypassed : is_bypassed to_end (was fold) (old fold) e block ≡ true) (onward_to : To e (block_start n)) where
    walk : (xs : List Item) (p : Pos) → p.block ≡ b → rf p ≡ xs → ((x : Item) → Contains xs x → Contains block.items x) → lead_of xs (first_id after) ≡ Some n →
        To e p
    walk [] p same here sub leads =
        finish block.source_end n (falls_from (old fold) b n block after at leads p same here)
        (absent (record { block = p.block; item = block.source_end }) (ap (stays fold) same ∙ gone)) onward_to
    walk (x ∷ xs) p same here sub leads =
        by_kind x.kind refl leads (λ k. walk xs (below p) same ((laid_out false (old fold) fold.resolve).cons p x xs here).1
        (λ y c. sub y (suc c.0, (let l = c.1 in omega (arith, l)), c.2)) k) where
          at_x : f.fetch p ≡ Here x
          at_x = ((laid_out false (old fold) fold.resolve).cons p x xs here).0

          member : Contains (old fold) block
          member = (found_in (old fold) b block after at).0

          quiet : is_code x.kind ≡ false → To e (below p) → To e p
          quiet code later = debug x at_x code (λ c d h. kin_debug f x (lost e) c d
              (covered to_end (was fold) (old fold) e block x member bypassed (sub x (0, omega arith, refl)) code) h) later

          by_kind : (k : ItemKind) → x.kind ≡ k → lead_by k (lead_of xs (first_id after)) ≡ Some n →
              (lead_of xs (first_id after) ≡ Some n → To e (below p)) → To e p
          by_kind (Mark v m) q k later = quiet (ap is_code q) (later k)
          by_kind (Phi r m) q k later = quiet (ap is_code q) (later k)
          by_kind (Code i m) q k later =
              let exit : exit_of x.kind ≡ Always n = ap exit_of q ∙ always_is (row_exit (row_of i)) n k in
              let leads = leads_either (exit_of x.kind) n (inr exit) in
              let home = from_home false (old fold) fold.resolve fold.sound.origins p x at_x in
              jump x n at_x (ap is_code q) (after_end fold ByEnds p x at_x leads)
              (absent (position_of x.origin) (ap (stays fold) (home ∙ same) ∙ gone))
              (λ c d h. kin_jump f x n (lost e) c d (form_at fold p x at_x) exit h) onward_to

  drop_none : (xs : List Item) → drop 0 xs ≡ xs
  drop_none [] = refl
  drop_none (x ∷ xs) = refl

  true_of : (x : Bool) → (x ≡ false → ⊥) → x ≡ true
  true_of true h = refl
  true_of false h = absurd (h refl)

  false_of : (x : Bool) → (x ≡ true → ⊥) → x ≡ false
  false_of true h = absurd (h refl)
  false_of false h = refl

  some_is : (o : Option ℕ) (n : ℕ) → o ≡ Some n → is_some o ≡ true
  some_is o n e = ap is_some e

  and_four : (w x y z : Bool) → w ≡ true → x ≡ true → y ≡ true → z ≡ true → (w && x && y && z) ≡ true
  and_four w x y z a b c d = λ i. a i && b i && c i && d i

  -- f comes from a block to where its way ends
  pub reach : {n e : ℕ} → EndsAt (lead (old fold)) n e → WasReached n → To e (block_start n)
  reach (leads_nowhere h) r = arrived refl
  reach (comes_round h) r = arrived refl
  reach (goes_on {b} {n} {e} h ne rest) r =
      let w = lead_at (old fold) apart b n h in
      let is_end : to_end b ≡ e = one_end (lead (old fold)) (ends fold b) (goes_on h ne rest) in
      let other : b ≡ e → ⊥ = ends_elsewhere (lead (old fold)) h ne rest in
      let id : w.block.id ≡ b = (found_in (old fold) b w.block w.rest w.at).1 in
      let bypassed : is_bypassed to_end (was fold) (old fold) e w.block ≡ true = and_four _ _ _ _
      (ap (was fold) id ∙ (fold.kills.reached b).1 r) (some_is _ n (ap (lead (old fold)) id ∙ h))
      (eq-eqb (to_end w.block.id) e (ap to_end id ∙ is_end)) (ap not (ne_eqb w.block.id e (λ k. other (sym id ∙ k)))) in
      walk e n b w.block w.rest w.at (gone b e w is_end other) bypassed (reach rest (was_led (old fold) apart b n h r))
      w.block.items (block_start b) refl (first_items b w) (λ x c. c) w.leads where
        gone : (b e : ℕ) → LeadsOn (old fold) b n → to_end b ≡ e → (b ≡ e → ⊥) → stays fold b ≡ false
        gone b e w is_end other = false_of (stays fold b) (λ st.
            elim (staying_end (old fold) to_end (ends fold) ((fold.kills.folded.reached b).0 st)) as (λ z. ⊥) [
              | inl first ↦ w.later first
              | inr own ↦ other (sym own ∙ is_end)
            ])

        first_items : (b : ℕ) (w : LeadsOn (old fold) b n) → rf (block_start b) ≡ w.block.items
        first_items b w = ap (λ (z : List Block). rest_in z 0) w.at ∙ drop_none w.block.items

  arrive : (n : ℕ) → WasReached n → To (to_end n) (block_start n)
  arrive n r = reach (ends fold n) r

  -- ---- what is left of a block

  is_next : (next : Option ℕ) (n : ℕ) → is_number next n ≡ true → next ≡ Some n
  is_next None n e = cc
  is_next (Some m) n e = ap (λ (z : ℕ). Some z) (eqb-true m n e)

  closes_below : (x : Item) (xs : List Item) → (LeavesBlock (exit_of x.kind) → ⊥) → Closes (x ∷ xs) → Closes xs
  closes_below x [] stays_on h = absurd (stays_on h)
  closes_below x (y ∷ ys) stays_on h = h

  abbrev Seen : ℕ → List Item → List Item → List Item → Type 0
  Seen b k xs ys = View sides place match_states b k xs ys

  abbrev Alike : ℕ → List Item → List Item → Since → Outcome → Outcome → Type 0
  Alike b xs ys m o p = DoAlike sides place match_states b xs ys m o p

  same_sight : SeesLess f g
  same_sight = record { sees = λ r c v e. e; resolve = λ q. refl }

  less : (x : Item) (c d : Core) → MatchCores [] c d → EndAlike TellsLess (do_item f x.kind c) (do_item g x.kind d)
  less x c d h = item_less f g same_sight x.kind c d (kin_less c d h)

  on_the_way : (e : ℕ) (c d : Core) → MatchCores [] c d → MatchCores (lost e) c d
  on_the_way e c d h = kin_more (lost e) c d (kin_less c d h)

  -- g falls into the next block that stays
  falls_to : (b e : ℕ) (block : Block) (after : List Block) → from_block (old fold) b ≡ block ∷ after → stays fold b ≡ true → next_of after ≡ Some e →
      FallsTo sides place match_states b e
  falls_to b e block after at stay next q same none = (
    block.source_end,
    falls_from (new fold) b e (made_block to_end (stays fold) (was fold) (old fold) block after)
        (Rattle.fold_proof.proofs.Placed.made to_end (stays fold) (was fold) (old fold) after)
        (made_at to_end (stays fold) (was fold) (old fold) (old fold) b block after at stay)
        (made_first to_end (stays fold) (was fold) (old fold) after ∙ next) q same none,
  )

  alike_onward : (b : ℕ) (xs ys : List Item) (m : Since) (o p : Outcome) → ((n : ℕ) (c : Core) → o ≡ Goes n c → ⊥) → Rest [] b xs ys →
      EndAlike TellsLess o p → Alike b xs ys m o p
  alike_onward b xs ys m (Falls c) (Falls d) goes_on_not r h = ([], r, kin_more [] c d h)
  alike_onward b xs ys m (Goes n c) (Goes k d) goes_on_not r h = absurd (goes_on_not n c refl)
  alike_onward b xs ys m (Gives v) (Gives w) goes_on_not r h = h
  alike_onward b xs ys m Traps Traps goes_on_not r h = tt
  alike_onward b xs ys m Asks Asks goes_on_not r h = tt
  alike_onward b xs ys m Breaks Breaks goes_on_not r h = tt
  alike_onward b xs ys m _ _ goes_on_not r h = absurd h

  alike_final : (b : ℕ) (xs ys : List Item) (m : Since) (o p : Outcome) → ((n : ℕ) (c : Core) → o ≡ Goes n c → ⊥) →
      ((c : Core) → o ≡ Falls c → ⊥) → EndAlike TellsLess o p → Alike b xs ys m o p
  alike_final b xs ys m (Falls c) (Falls d) goes_on_not never h = absurd (never c refl)
  alike_final b xs ys m (Goes n c) (Goes k d) goes_on_not never h = absurd (goes_on_not n c refl)
  alike_final b xs ys m (Gives v) (Gives w) goes_on_not never h = h
  alike_final b xs ys m Traps Traps goes_on_not never h = tt
  alike_final b xs ys m Asks Asks goes_on_not never h = tt
  alike_final b xs ys m Breaks Breaks goes_on_not never h = tt
  alike_final b xs ys m _ _ goes_on_not never h = absurd h

  alike_sent : (b : ℕ) (xs ys : List Item) (m : Since) (u t : ℕ) (o p : Outcome) → m ≡ After → Rest [] b xs ys → stays fold u ≡ true → To u (block_start t) →
      ((n : ℕ) (c : Core) → o ≡ Goes n c → n ≡ t) → EndAlike TellsLess o p → Alike b xs ys m o (aimed_at u p)
  alike_sent b xs ys m u t (Falls c) (Falls d) af r has to goes h = ([], r, kin_more [] c d h)
  alike_sent b xs ys m u t (Goes n c) (Goes k d) af r has to goes h =
      (af, has, subst (λ (z : ℕ). To u (block_start z)) (sym (goes n c refl)) to, kin_more (lost u) c d h.1)
  alike_sent b xs ys m u t (Gives v) (Gives w) af r has to goes h = h
  alike_sent b xs ys m u t Traps Traps af r has to goes h = tt
  alike_sent b xs ys m u t Asks Asks af r has to goes h = tt
  alike_sent b xs ys m u t Breaks Breaks af r has to goes h = tt
  alike_sent b xs ys m u t _ _ af r has to goes h = absurd h

  alike_turned : (b : ℕ) (xs : List Item) (m : Since) (u v t : ℕ) (o p : Outcome) → m ≡ After → stays fold u ≡ true → stays fold v ≡ true →
      To u (block_start t) → FallsTo sides place match_states b u → Leaves sides place match_states v b xs →
      ((n : ℕ) (c : Core) → o ≡ Goes n c → n ≡ t) → EndAlike TellsLess o p → Alike b xs [] m o (swapped v p)
  alike_turned b xs m u v t (Falls c) (Falls d) af has_u has_v to fall leave goes h = (af, has_v, refl, leave, kin_more (lost v) c d h)
  alike_turned b xs m u v t (Goes n c) (Goes k d) af has_u has_v to fall leave goes h =
      (af, refl, (u, has_u, fall, subst (λ (z : ℕ). To u (block_start z)) (sym (goes n c refl)) to, kin_more (lost u) c d h.1))
  alike_turned b xs m u v t (Gives x) (Gives w) af has_u has_v to fall leave goes h = h
  alike_turned b xs m u v t Traps Traps af has_u has_v to fall leave goes h = tt
  alike_turned b xs m u v t Asks Asks af has_u has_v to fall leave goes h = tt
  alike_turned b xs m u v t Breaks Breaks af has_u has_v to fall leave goes h = tt
  alike_turned b xs m u v t _ _ af has_u has_v to fall leave goes h = absurd h

  debug_falls : (k : ItemKind) → is_code k ≡ false → (c d : Core) → EndAlike TellsLess (do_item f k c) (do_item g k d) →
      (e e' : Core) × (do_item f k c ≡ Falls e) × (do_item g k d ≡ Falls e') × MatchCores [] e e'
  debug_falls (Code i n) code c d h = cc
  debug_falls (Mark v m) code c d h = (_, _, refl, refl, kin_more [] _ _ h)
  debug_falls (Phi p n) code c d h = (_, _, refl, refl, kin_more [] _ _ h)

  -- ---- the end of a block without a branch

  module _ (b : ℕ) (block : Block) (after : List Block) (at : from_block (old fold) b ≡ block ∷ after) (stay : stays fold b ≡ true) where
    view_fall : (n : ℕ) → first_id after ≡ Some n → stays fold (to_end n) ≡ true → WasReached n → (z : Bool) → is_number (next_of after) (to_end n) ≡ z →
        Seen b [] [] (cond z [] (made_jump (to_end n) (Before (silent_of block)) Rattle.mir_func.specs.declared.location.Loc.TheVariants.Absent ∷ []))
    view_fall n fall has was true e =
        ended (to_end n) has (falls_to b (to_end n) block after at stay (is_next (next_of after) (to_end n) e))
        (by_end block.source_end n (λ p same none. falls_from (old fold) b n block after at fall p same none) (arrive n was))
        (λ c d h. on_the_way (to_end n) c d h)
    view_fall n fall has was false e =
        closes block.source_end n (to_end n) refl
        (ap (λ (m : ℕ). record { block = m; item = block.source_end }) (found_in (old fold) b block after at).1) refl (λ c d h. kin_shows c d h)
        (λ p same none. falls_from (old fold) b n block after at fall p same none) has (arrive n was)
        (λ c d h. (
          d,
          items_do_alike.made g (to_end n) (Before (silent_of block)) Rattle.mir_func.specs.declared.location.Loc.TheVariants.Absent d,
          on_the_way (to_end n) c d h,
        ))

    -- ---- the end with a jump

    view_jump : (x : Item) (xs : List Item) (p : Pos) → p.block ≡ b → f.fetch p ≡ Here x → (n : ℕ) → exit_of x.kind ≡ Always n →
        stays fold (to_end n) ≡ true → WasReached n → (z : Bool) → is_number (next_of after) (to_end n) ≡ z →
        Seen b [] (x ∷ xs) (cond z [] (sent (to_end n) x ∷ []))
    view_jump x xs p same here n exit has was z e =
        let leads = leads_either (exit_of x.kind) n (inr exit) in
        let code = code_leads x.kind leads in
        by_test code z e where
          leads : Leads (exit_of x.kind)
          leads = leads_either (exit_of x.kind) n (inr exit)

          form : HasForm x.kind
          form = form_at fold p x here

          after_x : since_item ByEnds x ≡ After
          after_x = after_end fold ByEnds p x here leads

          after_y : since_item ByItems (sent (to_end n) x) ≡ After
          after_y = let w = fold.kept p x here (end_kind x.kind leads) in
              Rattle.fold_proof.proofs.Folding.kept_after ByItems (sent (to_end n) x) w.0 w.1

          do_both : (c d : Core) → MatchCores [] c d → Alike b xs [] (since_item ByEnds x) (do_item f x.kind c) (do_item g (sent (to_end n) x).kind d)
          do_both c d h =
              let k = kin_jump f x n [] c d form exit h in
              let l = kin_new_jump g x.kind n [] k.0 d form exit k.2 in
              let go : do_item g (sent (to_end n) x).kind d ≡ Goes (to_end n) l.0 =
              items_do_alike.sent g x n (to_end n) d (inr exit) ∙ ap (aimed_at (to_end n)) l.1 in
              subst (λ (o : Outcome). Alike b xs [] (since_item ByEnds x) o (do_item g (sent (to_end n) x).kind d)) (sym k.1)
              (subst (λ (o : Outcome). Alike b xs [] (since_item ByEnds x) (Goes n k.0) o) (sym go)
              (after_x, has, arrive n was, on_the_way (to_end n) k.0 l.0 l.2))

          by_test : is_code x.kind ≡ true → (z : Bool) → is_number (next_of after) (to_end n) ≡ z → Seen b [] (x ∷ xs) (cond z [] (sent (to_end n) x ∷ []))
          by_test code true e =
              ended (to_end n) has (falls_to b (to_end n) block after at stay (is_next (next_of after) (to_end n) e))
              (by_jump x n code after_x (λ c d h. kin_jump f x n (lost (to_end n)) c d form exit h) (arrive n was))
              (λ c d h. on_the_way (to_end n) c d h)
          by_test code false e =
              both code (still_code (to_block (to_end n)) x.kind ∙ code) refl (after_x ∙ sym after_y) (λ c d h. kin_shows c d h) do_both

    -- ---- the end with a conditional branch

    module _ (x : Item) (xs : List Item) (p : Pos) (same : p.block ≡ b) (here : f.fetch p ≡ Here x) (rest : rf (below p) ≡ xs) (t m : ℕ)
        (exit : exit_of x.kind ≡ Perhaps t) (may : IsJumpAtMost xs) (else_to : else_way (first_of xs) (first_id after) ≡ Some m)
        (has_u : stays fold (to_end t) ≡ true) (was_t : WasReached t) (has_v : stays fold (to_end m) ≡ true) (was_m : WasReached m)
        (left : Rest [] b xs (anew block after xs)) where
      abbrev u : ℕ
      u = to_end t

      abbrev v : ℕ
      v = to_end m

      abbrev next : Option ℕ
      next = next_of after

      leads : Leads (exit_of x.kind)
      leads = leads_either (exit_of x.kind) t (inl exit)

      code : is_code x.kind ≡ true
      code = code_leads x.kind leads

      form : HasForm x.kind
      form = form_at fold p x here

      after_x : since_item ByEnds x ≡ After
      after_x = after_end fold ByEnds p x here leads

      after_y : (y : Item) → y.origin ≡ x.origin → since_item ByItems y ≡ After
      after_y y o = let w = fold.kept p x here (end_kind x.kind leads) in
          Rattle.fold_proof.proofs.Folding.kept_after ByItems y w.0 (o ∙ w.1)

      -- from past the branch f goes to the second end
      leave_by : (ys : List Item) (q : Pos) → q.block ≡ b → rf q ≡ ys → IsJumpAtMost ys → else_way (first_of ys) (first_id after) ≡ Some m →
          Leaves sides place match_states v b ys
      leave_by [] q k r jumps to = by_end block.source_end m (λ z s none. falls_from (old fold) b m block after at to z s none) (arrive m was_m)
      leave_by (j ∷ []) q k r jumps to =
          let there = (laid_out false (old fold) fold.resolve).cons q j [] r in
          let go : exit_of j.kind ≡ Always m = always_is (exit_of j.kind) m to in
          let lead = leads_either (exit_of j.kind) m (inr go) in
          by_jump j m (code_leads j.kind lead) (after_end fold ByEnds q j there.0 lead)
          (λ c d h. kin_jump f j m (lost v) c d (form_at fold q j there.0) go h) (arrive m was_m)
      leave_by (j ∷ y ∷ ys) q k r jumps to = absurd jumps

      leave : Leaves sides place match_states v b xs
      leave = leave_by xs (below p) same rest may else_to

      goes_t : (c : Core) (n : ℕ) (e : Core) → do_item f x.kind c ≡ Goes n e → n ≡ t
      goes_t c n e q = elim (kin_branch f x t [] c c form exit (kin_itself [] c)) as (λ z. n ≡ t) [
        | inl a ↦ (let k : Goes n e ≡ Goes t a.0 = sym q ∙ a.1 in cc)
        | inr (inl a) ↦ (let k : Goes n e ≡ Falls a.0 = sym q ∙ a.1 in cc)
        | inr (inr a) ↦ (let k : Goes n e ≡ Traps = sym q ∙ a in cc)
      ]

      -- ---- what is left past the branch

      left_anew : (ys : List Item) → IsJumpAtMost ys → else_way (first_of ys) (first_id after) ≡ Some m →
          anew block after ys ≡ if_needed next v (jump_at_end (silent_of block) (first_of ys) v)
      left_anew [] jumps to = ap (plain_tail to_end next (first_id after) (silent_of block) None) to
      left_anew (j ∷ []) jumps to =
          ap (λ (z : Exit). tail_by to_end next (first_id after) (silent_of block) z j None (anew block after [])) (always_is (exit_of j.kind) m to)
      left_anew (j ∷ y ∷ ys) jumps to = absurd jumps

      abbrev last_jump : Item
      last_jump = jump_at_end (silent_of block) (first_of xs) v

      left_by : (z : Bool) → is_number next v ≡ z → Rest [] b xs (cond z [] (last_jump ∷ []))
      left_by z e = subst (Rest [] b xs) (left_anew xs may else_to ∙ ap (λ (y : Bool). cond y [] (last_jump ∷ [])) e) left

      -- ---- the jump in the place of the branch

      abbrev one_jump : Item
      one_jump = jump_for_branch (silent_of block) x (first_of xs) v

      jump_form : (ys : List Item) (q : Pos) → rf q ≡ ys → IsJumpAtMost ys → HasForm (jump_at_end (silent_of block) (first_of ys) v).kind
      jump_form [] q r jumps = refl
      jump_form (j ∷ []) q r jumps =
          let there = (laid_out false (old fold) fold.resolve).cons q j [] r in
          sent_form j.kind (form_at fold q j there.0) jumps where
            sent_form : (k : ItemKind) → HasForm k → IsAlways (exit_of k) → HasForm (Rattle.fold_rule.specs.Turned.with_code (to_block v) k)
            sent_form (Code i n) h always = Rattle.fold_proof.proofs.Told.aimed_form i.op i.operands v h
            sent_form (Mark w n) h always = absurd always
            sent_form (Phi r n) h always = absurd always
      jump_form (j ∷ y ∷ ys) q r jumps = absurd jumps

      jump_goes : exit_of one_jump.kind ≡ Always v
      jump_goes = jump_exit (silent_of block) xs v may

      jump_code : is_code one_jump.kind ≡ true
      jump_code = code_leads one_jump.kind (leads_either (exit_of one_jump.kind) v (inr jump_goes))

      do_removed : u ≡ v → (c d : Core) → MatchCores [] c d → Alike b xs [] (since_item ByEnds x) (do_item f x.kind c) (do_item g one_jump.kind d)
      do_removed uv c d h = elim (kin_branch f x t [] c d form exit h) as (λ z. Alike b xs [] (since_item ByEnds x) (do_item f x.kind c)
          (do_item g one_jump.kind d)) [
            | inl a ↦ (let l = jumps a.0 a.2 in
                subst (λ (o : Outcome). Alike b xs [] (since_item ByEnds x) o (do_item g one_jump.kind d)) (sym a.1)
                (subst (λ (o : Outcome). Alike b xs [] (since_item ByEnds x) (Goes t a.0) o) (sym l.1)
                (after_x, has_v, subst (λ (z : ℕ). To z (block_start t)) uv (arrive t was_t), on_the_way v a.0 l.0 l.2)))
            | inr (inl a) ↦ (let l = jumps a.0 a.2 in
                subst (λ (o : Outcome). Alike b xs [] (since_item ByEnds x) o (do_item g one_jump.kind d)) (sym a.1)
                (subst (λ (o : Outcome). Alike b xs [] (since_item ByEnds x) (Falls a.0) o) (sym l.1)
                (after_x, has_v, refl, leave, on_the_way v a.0 l.0 l.2)))
            | inr (inr a) ↦ (let l = jumps c h in
                subst (λ (o : Outcome). Alike b xs [] (since_item ByEnds x) o (do_item g one_jump.kind d)) (sym a)
                (subst (λ (o : Outcome). Alike b xs [] (since_item ByEnds x) Traps o) (sym l.1) after_x))
          ] where
            jumps : (e : Core) → MatchCores [] e d → (d' : Core) × (do_item g one_jump.kind d ≡ Goes v d') × MatchCores [] e d'
            jumps e k = kin_new_jump g one_jump.kind v [] e d (jump_form xs (below p) rest may) jump_goes k

      view_removed : u ≡ v → (z : Bool) → is_number next v ≡ z → Seen b [] (x ∷ xs) (cond z [] (one_jump ∷ []))
      view_removed uv true e =
          ended v has_v (falls_to b v block after at stay (is_next next v e))
          (by_branch x t code (branch_no_jump x.kind t exit) after_x (λ c d h. kin_branch f x t (lost v) c d form exit h)
          (subst (λ (z : ℕ). To z (block_start t)) uv (arrive t was_t)) leave) (λ c d h. on_the_way v c d h)
      view_removed uv false e = both code jump_code refl (after_x ∙ sym (after_y one_jump refl)) (λ c d h. kin_shows c d h) (do_removed uv)

      do_sent : (ys : List Item) → Rest [] b xs ys → (c d : Core) → MatchCores [] c d →
          Alike b xs ys (since_item ByEnds x) (do_item f x.kind c) (do_item g (sent u x).kind d)
      do_sent ys r c d h =
          subst (Alike b xs ys (since_item ByEnds x) (do_item f x.kind c)) (sym (items_do_alike.sent g x t u d (inl exit)))
          (alike_sent b xs ys (since_item ByEnds x) u t (do_item f x.kind c) (do_item g x.kind d) after_x r has_u (arrive t was_t)
          (λ n e q. goes_t c n e q) (less x c d h))

      view_sent : (ys : List Item) → Rest [] b xs ys → Seen b [] (x ∷ xs) (sent u x ∷ ys)
      view_sent ys r = both code (still_code (to_block u) x.kind ∙ code) refl (after_x ∙ sym (after_y (sent u x) refl)) (λ c d h. kin_shows c d h)
          (do_sent ys r)

      do_turned : next ≡ Some u → (c d : Core) → MatchCores [] c d →
          Alike b xs [] (since_item ByEnds x) (do_item f x.kind c) (do_item g (turned v x).kind d)
      do_turned e c d h =
          subst (Alike b xs [] (since_item ByEnds x) (do_item f x.kind c)) (sym (items_do_alike.turned g x t v d exit))
          (alike_turned b xs (since_item ByEnds x) u v t (do_item f x.kind c) (do_item g x.kind d) after_x has_u has_v (arrive t was_t)
          (falls_to b u block after at stay e) leave (λ n e q. goes_t c n e q) (less x c d h))

      view_turned : next ≡ Some u → Seen b [] (x ∷ xs) (turned v x ∷ [])
      view_turned e = both code (still_code (Rattle.fold_rule.specs.Turned.inverse_to v) x.kind ∙ code) refl (after_x ∙ sym (after_y (turned v x) refl))
          (λ c d h. kin_shows c d h) (do_turned e)

      view_branch : Seen b [] (x ∷ xs) (branch_tail next (silent_of block) x (first_of xs) u v)
      view_branch = by_tests (nat_eq u v) (is_number next v) (is_number next u) refl refl refl where
        by_tests : (q r z : Bool) → nat_eq u v ≡ q → is_number next v ≡ r → is_number next u ≡ z →
            Seen b [] (x ∷ xs) (cond q (if_needed next v one_jump) (cond r (sent u x ∷ []) (cond z (turned v x ∷ []) (sent u x ∷ last_jump ∷ []))))
        by_tests true r z a b' c = view_removed (eqb-true u v a) (is_number next v) refl
        by_tests false true z a b' c = view_sent [] (left_by true b')
        by_tests false false true a b' c = view_turned (is_next next u c)
        by_tests false false false a b' c = view_sent (last_jump ∷ []) (left_by false b')

  -- ---- the view of a rest

  -- what is left past an item that control doesn't leave for good
  past : (b : ℕ) (x : Item) (xs ys : List Item) (r : Rest [] b (x ∷ xs) ys) → (LeavesBlock (exit_of x.kind) → ⊥) →
      ((n : ℕ) → LeadTo (ways_of xs (first_id r.after)) n → (stays fold (to_end n) ≡ true) × WasReached n) → Rest [] b xs (anew r.block r.after xs)
  past b x xs ys r stays_on ways = record {
    block = r.block;
    after = r.after;
    at = r.at;
    stay = r.stay;
    pos = below r.pos;
    in_block = r.in_block;
    here = ((laid_out false (old fold) fold.resolve).cons r.pos x xs r.here).1;
    ends = r.ends.1;
    onto = λ none. closes_below x xs stays_on (r.onto none);
    ways = ways;
    killed = All-nil (IsKill b);
    same = refl;
  }

  view_item : (b : ℕ) (x : Item) (xs ys : List Item) → Rest [] b (x ∷ xs) ys → Seen b [] (x ∷ xs) ys
  view_item b x xs ys r = subst (Seen b [] (x ∷ xs)) (sym r.same) (by_exit (exit_of x.kind) refl r.ends.0) where
    laid : (f.fetch r.pos ≡ Here x) × (rf (below r.pos) ≡ xs)
    laid = (laid_out false (old fold) fold.resolve).cons r.pos x xs r.here

    fall : Option ℕ
    fall = first_id r.after

    way : (e : Exit) → exit_of x.kind ≡ e → (n : ℕ) → LeadTo (ways_by e (first_of xs) (ways_of xs fall) fall) n →
        (stays fold (to_end n) ≡ true) × WasReached n
    way e q n l = r.ways n (subst (λ (z : Exit). LeadTo (ways_by z (first_of xs) (ways_of xs fall) fall) n) (sym q) l)

    -- past a branch the way is the second one
    else_ways : (zs : List Item) → IsJumpAtMost zs → (n : ℕ) → LeadTo (ways_of zs fall) n → else_way (first_of zs) fall ≡ Some n
    else_ways [] may n (inl e) = cc
    else_ways [] may n (inr e) = e
    else_ways (j ∷ []) may n l =
        let w = always_some (exit_of j.kind) may in
        by_way w.0 w.1 (subst (λ (z : Exit). LeadTo (ways_by z None (ways_of [] fall) fall) n) w.1 l) where
          by_way : (m : ℕ) → exit_of j.kind ≡ Always m → LeadTo (record { branch = None; onward = Some m }) n → always_to (exit_of j.kind) ≡ Some n
          by_way m q (inl e) = cc
          by_way m q (inr e) = ap always_to q ∙ e
    else_ways (j ∷ y ∷ zs) may n l = absurd may

    by_exit : (e : Exit) → exit_of x.kind ≡ e → MayFollow e xs →
        Seen b [] (x ∷ xs) (tail_by to_end (next_of r.after) fall (silent_of r.block) e x (first_of xs) (anew r.block r.after xs))
    by_exit Onward q may = by_code (is_code x.kind) refl where
      left : Rest [] b xs (anew r.block r.after xs)
      left = past b x xs ys r (λ l. subst LeavesBlock q l) (λ n l. way Onward q n l)

      by_code : (z : Bool) → is_code x.kind ≡ z → Seen b [] (x ∷ xs) (x ∷ anew r.block r.after xs)
      by_code true code = both code code refl refl (λ c d h. kin_shows c d h)
          (λ c d h. alike_onward b xs (anew r.block r.after xs) (since_item ByEnds x) (do_item f x.kind c) (do_item g x.kind d)
          (λ n e k. onward_never_goes f (λ n. refl) x r.pos laid.0 c q n e k) left (less x c d h))
      by_code false code = paired {k' = []} code code left (λ c d h. debug_falls x.kind code c d (less x c d h))
    by_exit (Perhaps t) q may =
        let w = goes_else x t xs fall q may r.onto in
        let first = way (Perhaps t) q t (inl refl) in
        let second = way (Perhaps t) q w.0 (inr w.1) in
        subst (λ (o : Option ℕ). Seen b [] (x ∷ xs) (branch_tail_to to_end (next_of r.after) fall (silent_of r.block) x (first_of xs) t o)) (sym w.1)
        (view_branch b r.block r.after r.at r.stay x xs r.pos r.in_block laid.0 laid.1 t w.0 q may w.1 first.0 first.1 second.0 second.1
        (past b x xs ys r (λ l. subst LeavesBlock q l) (λ n l. way (Perhaps t) q n (inr (else_ways xs may n l)))))
    by_exit (Always n) q may =
        let w = way (Always n) q n (inr refl) in
        view_jump b r.block r.after r.at r.stay x xs r.pos r.in_block laid.0 n q w.0 w.1 (is_number (next_of r.after) (to_end n)) refl
    by_exit Final q may =
        both (code_final x.kind q) (code_final x.kind q) refl refl (λ c d h. kin_shows c d h)
        (λ c d h. alike_final b xs [] (since_item ByEnds x) (do_item f x.kind c) (do_item g x.kind d)
        (λ n e k. final_never_goes f (λ n. refl) x r.pos laid.0 c q n e k) (λ e k. final_never_falls f (λ n. refl) x r.pos laid.0 c q e k) (less x c d h))

  pub view : (k : List Item) (b : ℕ) (xs ys : List Item) → Rest k b xs ys → Seen b k xs ys
  view (i ∷ ks) b xs ys r =
      let kill = All-head (IsKill b) i ks r.killed in
      subst (Seen b (i ∷ ks) xs) (sym r.same)
      (added {k' = ks} (debug_kill i.kind kill.kind) (record {
        block = r.block;
        after = r.after;
        at = r.at;
        stay = r.stay;
        pos = r.pos;
        in_block = r.in_block;
        here = r.here;
        ends = r.ends;
        onto = r.onto;
        ways = r.ways;
        killed = All-tail (IsKill b) i ks r.killed;
        same = refl;
      }) (λ c d h. kin_kill g i ks c d kill.kind h)) where
        debug_kill : (k : ItemKind) → Rattle.fold_rule_proof.proofs.Kills.IsKillKind k → is_code k ≡ false
        debug_kill (Mark v m) h = refl
        debug_kill (Phi p n) h = refl
        debug_kill (Code j n) h = absurd h
  view [] b [] ys r = subst (Seen b [] []) (sym r.same) (by_fall (first_id r.after) refl) where
    by_fall : (o : Option ℕ) → first_id r.after ≡ o →
        Seen b [] [] (plain_tail to_end (next_of r.after) (first_id r.after) (silent_of r.block) None o)
    by_fall None e = absurd (r.onto e)
    by_fall (Some n) e =
        let w = r.ways n (inr e) in
        view_fall b r.block r.after r.at r.stay n e w.0 w.1 (is_number (next_of r.after) (to_end n)) refl
  view [] b (x ∷ xs) ys r = view_item b x xs ys r
