-- A folded function runs along where the function before did.
use Rattle.std.proofs.Common.{◌≡◌, ◌⊎◌, ℕ, suc, List, [], ◌∷◌, ◌++◌, drop, length, slice_get, All, Contains, Option, Some, None, Bool}
use Rattle.std.proofs.Common.{true, false, cond}
use Rattle.std.proofs.Common.{nat_eq, refl, sym, ap, ◌∙◌, subst, inl, inr, arith}
use Rattle.std.proofs.lemmas.List.Elements.{All-nil, All-cons, All-weaker, All-contains, All-append}
use Rattle.std.proofs.lemmas.Option.{slice_get-get_or}
use Rattle.mir_func.specs.declared.block.Block.{Block}
use Rattle.mir_func.specs.declared.exit.Exit.{Exit}
use Rattle.mir_func.specs.declared.exit.Exit.TheVariants.{Onward, Perhaps, Always, Final}
use Rattle.mir_func.specs.declared.item.Item.{Item}
use Rattle.mir_func.specs.declared.item.ItemKind.{ItemKind}
use Rattle.mir_func.specs.declared.item.ItemKind.TheVariants.{Code, Mark, Phi}
use Rattle.mir_func.specs.declared.position.Pos.{Pos}
use Rattle.mir_func.specs.Exits.{exit_of, Leaves}
use Rattle.mir_func.specs.Graph.{Program, Here, EndOfBlock, block_start, fetch_in, from_block, index_of, program_of, rest_in, rest_of}
use Rattle.mir_func.specs.Sound.{IsJumpAtMost, MayFollow, EndsWell, Closes, LastCloses}
use Rattle.mir_func.specs.Positions.{position_of}
use Rattle.sem_mir.specs.State.{State}
use Rattle.sem_mir.specs.Align.{is_code, ByItems, ByEnds, sync_point_of, sync_point_at, IsOrigin, AnyOrigin, RunsMatch, SyncPoint}
use Rattle.sem_mir.specs.InitialState.{first_of as first_number}
use Rattle.sem_mir.proofs.Reading.{found_in, item_front, front_item}
use Rattle.sem_simulation.specs.Rewired.{Rewired}
use Rattle.sem_simulation.proofs.Rewired.{rewired_follows}
use Rattle.sem_simulation.proofs.Stations.{code_sync_point, end_is_sync_point, IsSyncPointOf, of_item, of_end, sync_point_is_of}
use Rattle.sem_simulation.proofs.Laid.{laid_out, in_order_at, from_home, from_before_end, falls_down}
use Rattle.fold_targets.specs.Leads.{first_id}
use Rattle.fold_rule.specs.Turned.{sent, turned}
use Rattle.fold_rule.specs.Tails.{first_of, else_way, is_number, if_needed, jump_at_end, jump_for_branch, branch_tail, plain_tail, branch_tail_to, tail_by}
use Rattle.fold_rule.specs.Tails.{rewritten}
use Rattle.fold_rule.specs.Reached.{LeadTo, first, onward}
use Rattle.fold_rule_proof.proofs.Tails.{goes_else}
use Rattle.fold_rule_proof.specs.Kills.{kills}
use Rattle.fold_rule_proof.proofs.Kills.{IsKillKind, IsKill, each_kill}
use Rattle.fold_rule_proof.proofs.StepAlike.{leads_either}
use Rattle.fold_proof.specs.Runs.{FoldedRunsAlong}
use Rattle.fold_proof.proofs.Told.{kin_itself}
use Rattle.fold_proof.proofs.Placed.{Found, falls_from, made_block, made_at, made_was}
use Rattle.fold_proof.proofs.Ways.{ways_at}
use Rattle.fold_proof.proofs.Folding.{Folding, old, end, stays, was, new, fp, gp, origins_new, apart_new, new_is, found_staying, was_staying}
use Rattle.fold_proof.proofs.Folding.{code_leads}
use Rattle.fold_proof.proofs.Runs.{sides, match_states, Rest, view}

-- control doesn't fall out of the last block
pub last_closes : (bs : List Block) (n : ℕ) (b : Block) → from_block bs n ≡ b ∷ [] → LastCloses bs → Closes b.items
last_closes [] n b e h = absurd h
last_closes (a ∷ []) n b e h = by_test (nat_eq a.id n) e where
  by_test : (z : Bool) → cond z (a ∷ []) [] ≡ b ∷ [] → Closes b.items
  by_test true k = let same : a ≡ b = cc in subst (λ (c : Block). Closes c.items) same h
  by_test false k = cc
last_closes (a ∷ c ∷ cs) n b e h = by_test (nat_eq a.id n) e (λ k. last_closes (c ∷ cs) n b k h) where
  by_test : (z : Bool) → cond z (a ∷ c ∷ cs) (from_block (c ∷ cs) n) ≡ b ∷ [] → (from_block (c ∷ cs) n ≡ b ∷ [] → Closes b.items) → Closes b.items
  by_test true k later = cc
  by_test false k later = later k

pub none_after : (bs : List Block) → first_id bs ≡ None → bs ≡ []
none_after [] e = refl
none_after (b ∷ bs) e = cc

drop_none : (xs : List Item) → drop 0 xs ≡ xs
drop_none [] = refl
drop_none (x ∷ xs) = refl

drop_all : (xs : List Item) → drop (length xs) xs ≡ []
drop_all [] = refl
drop_all (x ∷ xs) = drop_all xs

-- ---- where the code of ends written anew comes from

module _ (to_end : ℕ → ℕ) (next fall : Option ℕ) (source_end : Pos) where
  -- from code of the old items, or it was made at the end of a block that falls
  abbrev CodeFrom : List Item → Item → Type 0
  CodeFrom xs y = is_code y.kind ≡ true →
      ((x : Item) × Contains xs x × (is_code x.kind ≡ true) × (position_of x.origin ≡ position_of y.origin)) ⊎
      ((n : ℕ) × (fall ≡ Some n) × (position_of y.origin ≡ source_end))

  one_from : (xs : List Item) (y : Item) → CodeFrom xs y → All (CodeFrom xs) (y ∷ [])
  one_from xs y h = All-cons (CodeFrom xs) y [] h (All-nil (CodeFrom xs))

  needed_from : (xs : List Item) (n : ℕ) (y : Item) → CodeFrom xs y → All (CodeFrom xs) (if_needed next n y)
  needed_from xs n y h = by_test (is_number next n) where
    by_test : (z : Bool) → All (CodeFrom xs) (cond z [] (y ∷ []))
    by_test true = All-nil (CodeFrom xs)
    by_test false = one_from xs y h

  head : (x : Item) (xs : List Item) → Contains (x ∷ xs) x
  head x xs = (0, omega arith, refl)

  tail : (x y : Item) (xs : List Item) → Contains xs y → Contains (x ∷ xs) y
  tail x y xs (k, lt, e) = (suc k, omega (arith, lt), e)

  jump_from : (x : Item) (xs : List Item) (m n : ℕ) → IsJumpAtMost xs → else_way (first_of xs) fall ≡ Some m →
      CodeFrom (x ∷ xs) (jump_at_end source_end (first_of xs) n)
  jump_from x [] m n may to code = inr (m, to, refl)
  jump_from x (j ∷ []) m n may to code =
      let go : exit_of j.kind ≡ Always m = Rattle.fold_proof.proofs.Ways.always_is (exit_of j.kind) m to in
      inl (j, tail x j (j ∷ []) (head j []), code_leads j.kind (leads_either (exit_of j.kind) m (inr go)), refl)
  jump_from x (j ∷ y ∷ ys) m n may to code = absurd may

  branch_from : (x : Item) (xs : List Item) (t m u v : ℕ) → exit_of x.kind ≡ Perhaps t → IsJumpAtMost xs → else_way (first_of xs) fall ≡ Some m →
      All (CodeFrom (x ∷ xs)) (branch_tail next source_end x (first_of xs) u v)
  branch_from x xs t m u v exit may to = by_tests (nat_eq u v) (is_number next v) (is_number next u) where
    code : is_code x.kind ≡ true
    code = code_leads x.kind (leads_either (exit_of x.kind) t (inl exit))

    own : (y : Item) → y.origin ≡ x.origin → CodeFrom (x ∷ xs) y
    own y o k = inl (x, head x xs, code, ap position_of (sym o))

    by_tests : (q r z : Bool) → All (CodeFrom (x ∷ xs)) (cond q (if_needed next v (jump_for_branch source_end x (first_of xs) v)) (cond r (sent u x ∷ [])
        (cond z (turned v x ∷ []) (sent u x ∷ jump_at_end source_end (first_of xs) v ∷ []))))
    by_tests true r z = needed_from (x ∷ xs) v (jump_for_branch source_end x (first_of xs) v) (own (jump_for_branch source_end x (first_of xs) v) refl)
    by_tests false true z = one_from (x ∷ xs) (sent u x) (own (sent u x) refl)
    by_tests false false true = one_from (x ∷ xs) (turned v x) (own (turned v x) refl)
    by_tests false false false = All-cons (CodeFrom (x ∷ xs)) (sent u x) (jump_at_end source_end (first_of xs) v ∷ []) (own (sent u x) refl)
        (one_from (x ∷ xs) (jump_at_end source_end (first_of xs) v) (jump_from x xs m v may to))

  pub rewritten_from : (xs : List Item) → EndsWell xs → (fall ≡ None → Closes xs) → All (CodeFrom xs) (rewritten to_end next fall source_end xs)
  rewritten_from [] ends onto = by_fall fall refl where
    by_fall : (o : Option ℕ) → fall ≡ o → All (CodeFrom []) (plain_tail to_end next fall source_end None o)
    by_fall None e = All-nil (CodeFrom [])
    by_fall (Some n) e = needed_from [] (to_end n) (jump_at_end source_end None (to_end n)) (λ code. inr (n, e, refl))
  rewritten_from (x ∷ xs) ends onto = by_exit (exit_of x.kind) refl ends.0 (λ o. rewritten_from xs ends.1 o) where
    below : exit_of x.kind ≡ Onward → fall ≡ None → Closes xs
    below e none = by_rest xs (onto none) where
      by_rest : (ys : List Item) → Closes (x ∷ ys) → Closes ys
      by_rest [] h = absurd (subst Leaves e h)
      by_rest (y ∷ ys) h = h

    more : (y : Item) → CodeFrom xs y → CodeFrom (x ∷ xs) y
    more y h code = elim (h code) as (λ z. ((w : Item) × Contains (x ∷ xs) w × (is_code w.kind ≡ true) × (position_of w.origin ≡ position_of y.origin)) ⊎
        ((n : ℕ) × (fall ≡ Some n) × (position_of y.origin ≡ source_end))) [
          | inl w ↦ inl (w.0, tail x w.0 xs w.1, w.2, w.3)
          | inr w ↦ inr w
        ]

    by_exit : (e : Exit) → exit_of x.kind ≡ e → MayFollow e xs →
        ((fall ≡ None → Closes xs) → All (CodeFrom xs) (rewritten to_end next fall source_end xs)) →
        All (CodeFrom (x ∷ xs)) (tail_by to_end next fall source_end e x (first_of xs) (rewritten to_end next fall source_end xs))
    by_exit Onward e may rest = All-cons (CodeFrom (x ∷ xs)) x (rewritten to_end next fall source_end xs) (λ code. inl (x, head x xs, code, refl))
        (All-weaker (CodeFrom xs) (CodeFrom (x ∷ xs)) more (rewritten to_end next fall source_end xs) (rest (below e)))
    by_exit (Perhaps t) e may rest =
        let w = goes_else x t xs fall e may onto in
        subst (λ (o : Option ℕ). All (CodeFrom (x ∷ xs)) (branch_tail_to to_end next fall source_end x (first_of xs) t o)) (sym w.1)
        (branch_from x xs t w.0 (to_end t) (to_end w.0) e may w.1)
    by_exit (Always n) e may rest = needed_from (x ∷ xs) (to_end n) (sent (to_end n) x)
        (λ code. inl (x, head x xs, code_leads x.kind (leads_either (exit_of x.kind) n (inr e)), refl))
    by_exit Final e may rest = one_from (x ∷ xs) x (λ code. inl (x, head x xs, code, refl))

module _ (fold : Folding) (s : State) where
  abbrev f : Program
  f = fp fold

  abbrev g : Program
  g = gp fold

  -- a block of the function ends well, and falls only into another
  ends_at : (n : ℕ) (b : Block) (after : List Block) → from_block (old fold) n ≡ b ∷ after → EndsWell b.items
  ends_at n b after at = All-contains (λ (b : Block). EndsWell b.items) (old fold) b fold.sound.ends (found_in (old fold) n b after at).0

  onto_at : (n : ℕ) (b : Block) (after : List Block) → from_block (old fold) n ≡ b ∷ after → first_id after ≡ None → Closes b.items
  onto_at n b after at none =
      last_closes (old fold) n b (at ∙ ap (λ (z : List Block). b ∷ z) (none_after after none)) fold.sound.last

  starts : (n : ℕ) → stays fold n ≡ true → Rest fold s (kills (end fold) (was fold) (old fold) n) n (rest_of (old fold) (block_start n))
      (rest_of (new fold) (block_start n))
  starts n stay = record {
    block = w.block;
    after = w.rest;
    at = w.at;
    stay = stay;
    pos = block_start n;
    in_block = refl;
    here = refl;
    ends = subst EndsWell (sym items) (ends_at n w.block w.rest w.at);
    onto = λ none. subst Closes (sym items) (onto_at n w.block w.rest w.at none);
    ways = λ m l. ways m (subst (λ (xs : List Item). LeadTo (Rattle.fold_rule.specs.Tails.ways_of xs (first_id w.rest)) m) items l);
    killed = each_kill (end fold) (was fold) (old fold) n;
    same = made_items ∙ (λ i. kills (end fold) (was fold) (old fold) (id i) ++ anew (sym items i));
  } where
    w : Found (old fold) n
    w = found_staying fold n stay

    id : w.block.id ≡ n
    id = (found_in (old fold) n w.block w.rest w.at).1

    items : rest_of (old fold) (block_start n) ≡ w.block.items
    items = ap (λ (z : List Block). rest_in z 0) w.at ∙ drop_none w.block.items

    anew : List Item → List Item
    anew xs = rewritten (end fold) (first_id (Rattle.fold_rule.specs.Rule.staying (stays fold) w.rest)) (first_id w.rest)
        (record { block = w.block.id; item = w.block.source_end }) xs

    made_items : rest_of (new fold) (block_start n) ≡ kills (end fold) (was fold) (old fold) w.block.id ++ anew w.block.items
    made_items = ap (λ (z : List Block). rest_in z 0) (made_at (end fold) (stays fold) (was fold) (old fold) (old fold) n w.block w.rest w.at stay) ∙
        drop_none (kills (end fold) (was fold) (old fold) w.block.id ++ anew w.block.items)

    ways : (m : ℕ) → LeadTo (Rattle.fold_rule.specs.Tails.ways_of w.block.items (first_id w.rest)) m →
        (stays fold (end fold m) ≡ true) × Rattle.fold_proof.proofs.Ways.Was (old fold) fold.sound.blocks_apart m
    ways m l =
        let at = ways_at (old fold) n w.block w.rest w.at in
        ((fold.kills.folded.reached (end fold m)).1 (onward _ ((fold.kills.folded.reached n).0 stay) at l), onward _ (was_staying fold n stay) at l)

  -- ---- the code's origins

  kill_is_debug : (k : ItemKind) → IsKillKind k → is_code k ≡ true → ⊥
  kill_is_debug (Mark v m) h e = cc
  kill_is_debug (Phi p n) h e = cc
  kill_is_debug (Code i n) h e = h

  slice_at : (xs : List Item) (x : Item) → Contains xs x → (k : ℕ) × (slice_get xs k ≡ Some x)
  slice_at xs x h = (h.0, slice_get-get_or xs h.0 x h.1 ∙ ap (λ (z : Item). Some z) h.2)

  item_origin : (n : ℕ) (b : Block) (after : List Block) → from_block (old fold) n ≡ b ∷ after → (x : Item) → Contains b.items x → is_code x.kind ≡ true →
      IsOrigin (sync_point_at ByEnds f) (position_of x.origin)
  item_origin n b after at x member code =
      let k = slice_at b.items x member in
      let p : Pos = record { block = n; item = k.0 } in
      let here : f.fetch p ≡ Here x = ap (λ (z : List Block). fetch_in z k.0) at ∙ item_front b.items k.0 b.source_end after x k.1 in
      record { place = p; sync_point = sync_point_of ByEnds x; stands = code_sync_point ByEnds f p x here code; from = refl }

  end_origin : (n : ℕ) (b : Block) (after : List Block) → from_block (old fold) n ≡ b ∷ after → (m : ℕ) → first_id after ≡ Some m →
      IsOrigin (sync_point_at ByEnds f) (record { block = b.id; item = b.source_end })
  end_origin n b after at m falls =
      let p : Pos = record { block = n; item = length b.items } in
      let over : rest_of (old fold) p ≡ [] = ap (λ (z : List Block). rest_in z (length b.items)) at ∙ drop_all b.items in
      let source_end : f.fetch p ≡ EndOfBlock b.source_end m = falls_from (old fold) n m b after at falls p refl over in
      record {
        place = p;
        sync_point = record { pos = record { block = n; item = b.source_end }; waits = false };
        stands = end_is_sync_point ByEnds f p b.source_end m source_end;
        from = ap (λ (z : ℕ). record { block = z; item = b.source_end }) (sym (found_in (old fold) n b after at).1);
      }

  abbrev CodeOf : Item → Type 0
  CodeOf y = is_code y.kind ≡ true → IsOrigin (sync_point_at ByEnds f) (position_of y.origin)

  made_code : (n : ℕ) (b : Block) (after : List Block) → from_block (old fold) n ≡ b ∷ after →
      All CodeOf (made_block (end fold) (stays fold) (was fold) (old fold) b after).items
  made_code n b after at =
      All-append CodeOf (kills (end fold) (was fold) (old fold) b.id) anew
      (All-weaker (IsKill b.id) CodeOf (λ y k code. absurd (kill_is_debug y.kind k.kind code)) (kills (end fold) (was fold) (old fold) b.id)
      (each_kill (end fold) (was fold) (old fold) b.id))
      (All-weaker From CodeOf from_old anew
      (rewritten_from (end fold) next (first_id after) source_end b.items (ends_at n b after at) (onto_at n b after at))) where
        next : Option ℕ
        next = first_id (Rattle.fold_rule.specs.Rule.staying (stays fold) after)

        source_end : Pos
        source_end = record { block = b.id; item = b.source_end }

        anew : List Item
        anew = rewritten (end fold) next (first_id after) source_end b.items

        From : Item → Type 0
        From = CodeFrom (end fold) next (first_id after) source_end b.items

        from_old : (y : Item) → From y → CodeOf y
        from_old y h code = elim (h code) as (λ z. IsOrigin (sync_point_at ByEnds f) (position_of y.origin)) [
          | inl w ↦ subst (IsOrigin (sync_point_at ByEnds f)) w.3 (item_origin n b after at w.0 w.1 w.2)
          | inr w ↦ subst (IsOrigin (sync_point_at ByEnds f)) (sym w.2) (end_origin n b after at w.0 w.1)
        ]

  origins : (p : Pos) → IsOrigin (sync_point_at ByItems g) p → IsOrigin (sync_point_at ByEnds f) p
  origins p o = by_sync_point (sync_point_is_of ByItems g o.place o.sync_point o.stands) where
    by_blocks : (y : Item) → g.fetch o.place ≡ Here y → (bs : List Block) → from_block (new fold) o.place.block ≡ bs → CodeOf y
    by_blocks y at [] e = let bad : Rattle.mir_func.specs.Graph.Outside ≡ Here y = ap (λ (z : List Block). fetch_in z o.place.item) (sym e) ∙ at in cc
    by_blocks y at (c ∷ cs) e =
        let w = made_was (end fold) (stays fold) (was fold) (old fold) o.place.block c cs e in
        let here : fetch_in (c ∷ cs) o.place.item ≡ Here y = ap (λ (z : List Block). fetch_in z o.place.item) (sym e) ∙ at in
        let k : slice_get c.items o.place.item ≡ Some y = front_item c.items o.place.item c.source_end cs y here in
        let member : Contains c.items y = (
          o.place.item,
          Rattle.std.proofs.lemmas.Option.slice_get_within c.items o.place.item y k,
          Rattle.std.proofs.lemmas.Option.get_or_from_slice_get c.items o.place.item y y k,
        ) in
        All-contains CodeOf c.items y (subst (λ (z : Block). All CodeOf z.items) (sym w.same) (made_code o.place.block w.block w.rest w.at)) member

    by_sync_point : IsSyncPointOf ByItems g o.place o.sync_point → IsOrigin (sync_point_at ByEnds f) p
    by_sync_point (of_item y at code st) =
        subst (IsOrigin (sync_point_at ByEnds f)) (ap (λ (z : SyncPoint). z.pos) st ∙ o.from) (by_blocks y at (from_block (new fold) o.place.block) refl code)
    by_sync_point (of_end k n at ends st) = cc

  rewired : Rewired (sides fold s) (index_of (new fold)) (match_states fold s)
  rewired = record {
    laid_f = laid_out false (old fold) fold.resolve;
    laid_g = laid_out false (new fold) fold.resolve;
    enter_f = λ n. refl;
    enter_g = λ n. refl;
    view = view fold s;
    starts = starts;
    order_f = in_order_at false (old fold) fold.resolve fold.order;
    home = from_home false (new fold) fold.resolve (origins_new fold);
    within_f = λ q e x k n at ends same. from_before_end false (old fold) fold.resolve fold.sound.origins q e x k n at ends same;
    onward = λ q k n at. falls_down false (new fold) fold.resolve (apart_new fold) q k n at;
    origins = origins;
    arrives = λ e c d has h. h;
  }

  first_stays : (bs : List Block) → LastCloses bs → first_id bs ≡ Some (first_number bs)
  first_stays [] h = absurd h
  first_stays (b ∷ bs) h = refl

  pub runs_along : (src : Program) → s.pos ≡ block_start (first_number (old fold)) →
      RunsMatch src f (sync_point_at ByEnds f) (AnyOrigin (sync_point_at ByEnds f)) s s →
      RunsMatch src g (sync_point_at ByItems g) (AnyOrigin (sync_point_at ByItems g)) s s
  runs_along src at runs =
      rewired_follows (match_states fold s) src (sides fold s) (index_of (new fold)) (first_number (old fold)) rewired at at
      ((fold.kills.folded.reached (first_number (old fold))).1 (first (first_stays (old fold) fold.sound.last)))
      (kin_itself (kills (end fold) (was fold) (old fold) (first_number (old fold))) s.core) runs

pub folded_runs_along : FoldedRunsAlong
folded_runs_along f g src resolve s sound forms kills kept order at runs =
    let fold : Folding = record { f = f; g = g; sound = sound; forms = forms; kills = kills; resolve = resolve; kept = kept; order = order } in
    subst (λ (bs : List Block). RunsMatch src (program_of false bs resolve) (sync_point_at ByItems (program_of false bs resolve))
    (AnyOrigin (sync_point_at ByItems (program_of false bs resolve))) s s) (sym (new_is fold)) (runs_along fold s src at runs)
