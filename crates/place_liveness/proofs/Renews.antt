-- Liveness of a place after code was removed: where it is in doubt, and where it stays for all that. A block at whose start the place was live
-- is in doubt, or the place is still live there (`still`): along the path on which it was live.
use Rattle.std.proofs.Common.{◌≡◌, ℕ, suc, ◌+◌, ◌<◌, ◌≤◌, Bool, true, false, cond, not, ◌&&◌, ◌||◌, List, [], ◌∷◌, length, get_or, Option, Some, None}
use Rattle.std.proofs.Common.{refl, sym, ap, ◌∙◌, inl, inr, arith, subst}
use Rattle.std.specs.Prelude.{◌⊎◌, ◌↔◌, slice_get, slice_index_or, Contains}
use Rattle.std.specs.List.{filter, list_any}
use Rattle.std.proofs.lemmas.Bool.{and_parts, and_from, or_cases, or_left, or_right, not-true, not_from_false, both_ways, cases_Bool, eqb-true, cases_lt}
use Rattle.std.proofs.lemmas.List.{length-map, get_or_past}
use Rattle.std.proofs.lemmas.Option.{slice_get_within, slice_get-get_or, get_or_from_slice_get}
use Rattle.graph_spread.specs.dataflow.Graph.{ways_at}
use Rattle.graph_spread.specs.Spread.{IsIn, Spreads, begins, goes}
use Rattle.pass_liveness.specs.rv64_instr.declared.place.Place.{Place}
use Rattle.pass_liveness.specs.mir_func.declared.block.Block.{Block}
use Rattle.pass_liveness.specs.mir_func.declared.debug_substitution.OperandPair.{OperandPair}
use Rattle.pass_liveness.specs.mir_func.declared.item.Item.{Item}
use Rattle.pass_liveness.specs.mir_func.Function.{Function}
use Rattle.pass_liveness.specs.mir_func.Graph.{program_of, block_start, from_block}
use Rattle.pass_liveness.specs.mir_func.Sound.{AreApart, ids_of}
use Rattle.pass_liveness.specs.mir_func.Successors.{ways}
use Rattle.pass_liveness.specs.sem_mir.Live.{Live}
use Rattle.pass_liveness.specs.Index.{index_in}
use Rattle.pass_liveness.proofs.Blocks.{block_found, next_of-drop, id_is, index_at, items_at_is}
use Rattle.pass_liveness.proofs.Indices.{index_is}
use Rattle.pass_liveness.proofs.mir_func.Ways.{contains_first, contains_later, contains_cases, contains_none}
use Rattle.pass_liveness.proofs.Paths.{LiveFrom, WalkedIn, next_of, live_is_walked}
use Rattle.place_liveness.specs.Alone.{is_target, live_by, passes_up, ways_of, AreWaysUp, AreWaysDown}
use Rattle.place_liveness.specs.Renewal.{IsThinner, doubts_up, stays_up, is_doubted, is_held_by, AreHeld, is_still_live}
use Rattle.place_liveness.proofs.Splits.{At, ByOne, split}
use Rattle.place_liveness.proofs.Lives.{alone_is_live, alone_by, block_at, edge_inside, number_at}

-- ---- filters and searches

module _ (p : ℕ → Bool) where
  pub kept_by : (xs : List ℕ) (n : ℕ) → Contains xs n → p n ≡ true → Contains (filter p xs) n
  kept_by [] n at on = at
  kept_by (m ∷ ms) n at on = elim (contains_cases m n ms at) [
    | inl same ↦ rw (ap p same ∙ on) (contains_first m n (filter p ms) same)
    | inr rest ↦ later (p m) (kept_by ms n rest on)
  ] where
    later : (t : Bool) → Contains (filter p ms) n → Contains (cond t (m ∷ filter p ms) (filter p ms)) n
    later true h = contains_later m n (filter p ms) h
    later false h = h

  pub passed_by : (xs : List ℕ) (n : ℕ) → Contains (filter p xs) n → Contains xs n × (p n ≡ true)
  passed_by [] n at = absurd (contains_none n at)
  passed_by (m ∷ ms) n at = by_test (p m) refl at (λ h. passed_by ms n h) where
    by_test : (t : Bool) → p m ≡ t → Contains (cond t (m ∷ filter p ms) (filter p ms)) n →
        (Contains (filter p ms) n → Contains ms n × (p n ≡ true)) → Contains (m ∷ ms) n × (p n ≡ true)
    by_test true e h below = elim (contains_cases m n (filter p ms) h) [
      | inl same ↦ (contains_first m n ms same, ap p (sym same) ∙ e)
      | inr rest ↦ let r = below rest in (contains_later m n ms r.0, r.1)
    ]
    by_test false e h below = let r = below h in (contains_later m n ms r.0, r.1)

  any_here : (xs : List ℕ) (n : ℕ) → Contains xs n → p n ≡ true → list_any p xs ≡ true
  any_here [] n at on = absurd (contains_none n at)
  any_here (m ∷ ms) n at on = elim (contains_cases m n ms at) [
    | inl same ↦ or_left (p m) (list_any p ms) (ap p same ∙ on)
    | inr rest ↦ or_right (p m) (list_any p ms) (any_here ms n rest on)
  ]

  any_of : (xs : List ℕ) → list_any p xs ≡ true → (n : ℕ) × (p n ≡ true)
  any_of [] e = absurd (let no : false ≡ true = e in cc)
  any_of (m ∷ ms) e = elim (or_cases (p m) (list_any p ms) e) [ inl here ↦ (m, here) | inr rest ↦ any_of ms rest ]

-- ---- from one function to the other

module _ (old new : Function) (x : Place) (lost : List ℕ) (thin : IsThinner old new x lost) (sp : Bool) (resolve : OperandPair → Option OperandPair) where
  abbrev LiveBefore : ℕ → Type 0
  LiveBefore n = Live (program_of sp old.blocks resolve) x (block_start n)

  abbrev LiveNow : ℕ → Type 0
  LiveNow n = Live (program_of sp new.blocks resolve) x (block_start n)

  abbrev ids : List ℕ
  ids = ids_of new.blocks

  abbrev number : ℕ → ℕ
  number b = get_or ids b 0

  as_many : length new.blocks ≡ length old.blocks
  as_many = sym (length-map new.blocks (λ (c : Block). c.id)) ∙ (ap (length {A = ℕ}) thin.ids ∙ length-map old.blocks (λ (c : Block). c.id))

  module _ (apart : AreApart (ids_of new.blocks)) (before : List Bool) (long : length before ≡ length new.blocks)
      (exact : (b : ℕ) → b < length old.blocks → (slice_index_or before b false ≡ true) ↔ LiveBefore (get_or (ids_of old.blocks) b 0))
      (up : List (List ℕ)) (u : AreWaysUp new.blocks up) (doubted : List Bool)
      (doubts : (b : ℕ) → IsIn doubted b ↔ Spreads up (doubts_up new.blocks x) (filter (is_doubted new.blocks x before) lost) b) where
    old_apart : AreApart (ids_of old.blocks)
    old_apart = subst AreApart thin.ids apart

    old_number : (b : ℕ) → get_or (ids_of old.blocks) b 0 ≡ number b
    old_number b = ap (λ (ns : List ℕ). get_or ns b 0) (sym thin.ids)

    index_of : (b : ℕ) → b < length new.blocks → index_in ids (number b) ≡ Some b
    index_of b inside =
        let many = length-map new.blocks (λ (c : Block). c.id) in
        index_at ids b (number b) apart (slice_get-get_or ids b 0 (omega (arith, inside, many)))

    -- a block of the new function tells that the place is live
    now_by : (b : ℕ) (t : Option ℕ) → b < length new.blocks → ((n : ℕ) → is_target t n ≡ true → LiveNow n) → live_by new.blocks x b t ≡ true →
        LiveNow (number b)
    now_by b t inside known e = let c = block_at new.blocks b inside in alone_is_live new.blocks x sp resolve apart b c.0 t c.1 known e

    no_target : (P : ℕ → Type 0) (n : ℕ) → is_target None n ≡ true → P n
    no_target P n h = absurd (let no : false ≡ true = h in cc)

    one_target : (P : ℕ → Type 0) (m : ℕ) → P m → (n : ℕ) → is_target (Some m) n ≡ true → P n
    one_target P m here n h = subst P (eqb-true m n h) here

    -- by index
    abbrev InDoubt : ℕ → Type 0
    InDoubt n = (b : ℕ) × (index_in ids n ≡ Some b) × IsIn doubted b

    abbrev Kept : ℕ → Type 0
    Kept n = LiveBefore n × (InDoubt n ⊎ LiveNow n)

    -- the block at an index of the old function, if it lost code: in doubt, or its own code uses the place
    lost_here : (b n : ℕ) → b < length new.blocks → index_in ids n ≡ Some b → number b ≡ n → Contains lost b → LiveBefore n → InDoubt n ⊎ LiveNow n
    lost_here b n inside index is at live = by_own (cases_Bool (live_by new.blocks x b None)) where
      by_own : (live_by new.blocks x b None ≡ true) ⊎ (live_by new.blocks x b None ≡ false) → InDoubt n ⊎ LiveNow n
      by_own (inl own) = inr (subst LiveNow is (now_by b None inside (no_target LiveNow) own))
      by_own (inr none) =
          let was = (exact b (omega (arith, inside, as_many))).1 (subst LiveBefore (sym (old_number b ∙ is)) live) in
          let test = and_from (slice_index_or before b false) (not (live_by new.blocks x b None)) was (not_from_false (live_by new.blocks x b None) none) in
          inl (b, index, (doubts b).1 (begins (kept_by (is_doubted new.blocks x before) lost b at test)))

    -- and if control goes on to a block where it is kept
    kept_on : (b n m : ℕ) → b < length new.blocks → index_in ids n ≡ Some b → number b ≡ n → Contains (ways_of new.blocks b) m →
        live_by new.blocks x b (Some m) ≡ true → InDoubt m ⊎ LiveNow m → InDoubt n ⊎ LiveNow n
    kept_on b n m inside index is listed by (inr now) = inr (subst LiveNow is (now_by b (Some m) inside (one_target LiveNow m now) by))
    kept_on b n m inside index is listed by (inl (k, there, on)) = by_own (cases_Bool (live_by new.blocks x b None)) where
      passes : passes_up new.blocks x k b ≡ true
      passes = ap (λ (o : Option ℕ). live_by new.blocks x b o) (number_at ids m k there) ∙ by

      by_own : (live_by new.blocks x b None ≡ true) ⊎ (live_by new.blocks x b None ≡ false) → InDoubt n ⊎ LiveNow n
      by_own (inl own) = inr (subst LiveNow is (now_by b None inside (no_target LiveNow) own))
      by_own (inr none) = inl (
        b,
        index,
        (doubts b).1 (goes {m = k} ((doubts k).0 on) (u.each b m k inside listed there)
            (and_from (passes_up new.blocks x k b) (not (live_by new.blocks x b None)) passes (not_from_false (live_by new.blocks x b None) none))),
      )

    closed : (n : ℕ) → WalkedIn sp old.blocks resolve x (λ k. Kept k) (from_block old.blocks n) 0 → Kept n
    closed n = by_blocks (from_block old.blocks n) refl where
      by_blocks : (fbs : List Block) → from_block old.blocks n ≡ fbs → WalkedIn sp old.blocks resolve x (λ k. Kept k) fbs 0 → Kept n
      by_blocks [] e walk = absurd walk
      by_blocks (c ∷ cs) e walk =
          let found = block_found old.blocks n c cs e in
          let b = found.0 in
          let at = found.1 in
          let one : b + 1 ≡ suc b = omega arith in
          let after : next_of cs ≡ slice_get (ids_of old.blocks) (b + 1) =
          ap next_of at.rest ∙ (next_of-drop old.blocks (suc b) ∙ ap (slice_get (ids_of old.blocks)) (sym one)) in
          here b c at.at (ap (λ (ns : List ℕ). index_in ns n) thin.ids ∙ at.index) (sym (old_number b) ∙ (id_is old.blocks b c at.at ∙ at.id))
          (split x (λ k. Kept k) c.items (slice_get (ids_of old.blocks) (b + 1))
          (subst (λ (o : Option ℕ). LiveFrom x (λ k. Kept k) c.items o) after walk)) where
            here : (b : ℕ) (c : Block) → slice_get old.blocks b ≡ Some c → index_in ids n ≡ Some b → number b ≡ n →
                LiveFrom x (At None) c.items (slice_get (ids_of old.blocks) (b + 1))
                ⊎ ByOne (λ k. Kept k) (ways c.items (slice_get (ids_of old.blocks) (b + 1))) (λ t. LiveFrom x (At t) c.items (slice_get (ids_of old.blocks) (b + 1))) →
                Kept n
            here b c at index is how = by_how how where
              inside : b < length new.blocks
              inside = let lt = slice_get_within old.blocks b c at in omega (arith, lt, as_many)

              was_by : (t : Option ℕ) → ((k : ℕ) → is_target t k ≡ true → LiveBefore k) → live_by old.blocks x b t ≡ true → LiveBefore n
              was_by t known e = subst LiveBefore (old_number b ∙ is) (alone_is_live old.blocks x sp resolve old_apart b c t at known e)

              by_how : LiveFrom x (At None) c.items (slice_get (ids_of old.blocks) (b + 1))
                  ⊎ ByOne (λ k. Kept k) (ways c.items (slice_get (ids_of old.blocks) (b + 1)))
                  (λ t. LiveFrom x (At t) c.items (slice_get (ids_of old.blocks) (b + 1))) → Kept n
              by_how (inl used) =
                  let told = alone_by old.blocks x sp resolve old_apart b c None at used in
                  let was = was_by None (no_target LiveBefore) told in (
                    was,
                    elim (thin.same b None inside) [
                      | inl gone ↦ lost_here b n inside index is gone was
                      | inr same ↦ inr (subst LiveNow is (now_by b None inside (no_target LiveNow) (same ∙ told)))
                    ],
                  )
              by_how (inr (m, kept, listed, by)) =
                  let told = alone_by old.blocks x sp resolve old_apart b c (Some m) at by in
                  let was = was_by (Some m) (one_target LiveBefore m kept.0) told in
                  let way : Contains (ways_of new.blocks b) m =
                  subst (λ (ns : List ℕ). Contains ns m) (sym (thin.ways b))
                  (subst (λ (is : List Item). Contains (ways is (slice_get (ids_of old.blocks) (b + 1))) m) (sym (items_at_is old.blocks b c at)) listed) in (
                    was,
                    elim (thin.same b (Some m) inside) [
                      | inl gone ↦ lost_here b n inside index is gone was
                      | inr same ↦ kept_on b n m inside index is way (same ∙ told) kept.1
                    ],
                  )

    still : (n : ℕ) → LiveBefore n → Kept n
    still n live = closed n (live_is_walked sp old.blocks resolve x (λ k. Kept k) closed live)

    -- what is in doubt isn't used by its block's own code
    unused : {b : ℕ} → Spreads up (doubts_up new.blocks x) (filter (is_doubted new.blocks x before) lost) b → live_by new.blocks x b None ≡ false
    unused (begins {n} at) =
        let test = (passed_by (is_doubted new.blocks x before) lost n at).1 in
        not-true (live_by new.blocks x n None) (and_parts (slice_index_or before n false) (not (live_by new.blocks x n None)) test).1
    unused (goes {m} {n} s edge pass) =
        not-true (live_by new.blocks x n None) (and_parts (passes_up new.blocks x m n) (not (live_by new.blocks x n None)) pass).1

    was_inside : (m : ℕ) → slice_index_or before m false ≡ true → m < length new.blocks
    was_inside m on = by_test (cases_lt m (length before)) where
      by_test : (m < length before) ⊎ (length before ≤ m) → m < length new.blocks
      by_test (inl lt) = omega (arith, lt, long)
      by_test (inr le) = absurd (both_ways (slice_index_or before m false) (get_or_past before m false le) on)

    was_live : (m : ℕ) → slice_index_or before m false ≡ true → LiveBefore (number m)
    was_live m on = subst LiveBefore (old_number m) ((exact m (let lt = was_inside m on in omega (arith, lt, as_many))).0 on)

    module _ (down : List (List ℕ)) (d : AreWaysDown new.blocks down) (held : List ℕ) (holds : AreHeld new.blocks x before doubted down (length new.blocks) held)
        (stays : List Bool) (exactly : (b : ℕ) → IsIn stays b ↔ Spreads up (stays_up new.blocks x doubted) held b) where
      target_at : (m n : ℕ) (o : Option ℕ) → slice_get ids m ≡ o → is_target o n ≡ true → number m ≡ n
      target_at m n None e h = absurd (let no : false ≡ true = h in cc)
      target_at m n (Some v) e h = get_or_from_slice_get ids m v 0 e ∙ eqb-true v n h

      passed : (m b : ℕ) → b < length new.blocks → LiveNow (number m) → passes_up new.blocks x m b ≡ true → LiveNow (number b)
      passed m b inside live pass = now_by b (slice_get ids m) inside (λ n h. subst LiveNow (target_at m n (slice_get ids m) refl h) live) pass

      -- what was live and isn't in doubt
      certain : (m : ℕ) → slice_index_or before m false ≡ true → slice_index_or doubted m false ≡ false → LiveNow (number m)
      certain m on off = elim (still (number m) (was_live m on)).1 [
        | inl (k, index, doubt) ↦ let same : k ≡ m = some_is k m (sym index ∙ index_of m (was_inside m on)) in
            absurd (both_ways (slice_index_or doubted m false) off (subst (λ (j : ℕ). IsIn doubted j) same doubt))
        | inr now ↦ now
      ] where
        some_is : (a c : ℕ) → Some a ≡ Some c → a ≡ c
        some_is a c e = cc

      stays_live : {b : ℕ} → Spreads up (stays_up new.blocks x doubted) held b → LiveNow (number b)
      stays_live (begins {n} at) =
          let right = holds.right n at in
          let parts = and_parts (slice_index_or doubted n false) (list_any (λ m. is_held_by new.blocks x before doubted n m) (ways_at down n)) right.1 in
          let one = any_of (λ m. is_held_by new.blocks x before doubted n m) (ways_at down n) parts.1 in
          let m = one.0 in
          let first = and_parts (slice_index_or before m false) (not (slice_index_or doubted m false) && passes_up new.blocks x m n) one.1 in
          let second = and_parts (not (slice_index_or doubted m false)) (passes_up new.blocks x m n) first.1 in
          passed m n right.0 (certain m first.0 (not-true (slice_index_or doubted m false) second.0)) second.1
      stays_live (goes {m} {n} s edge pass) =
          passed m n (subst (λ (k : ℕ). n < k) u.long (edge_inside up m n u.graph edge)) (stays_live s)
          (and_parts (slice_index_or doubted n false) (passes_up new.blocks x m n) pass).1

      -- ---- nothing else is live

      abbrev Found : ℕ → Type 0
      Found b = (slice_index_or before b false ≡ true) × ((slice_index_or doubted b false ≡ false) ⊎ IsIn stays b)

      abbrev Told : ℕ → Type 0
      Told n = (b : ℕ) × (index_in ids n ≡ Some b) × Found b

      told_before : (k : ℕ) (n : ℕ) → index_in ids n ≡ Some k → slice_index_or before k false ≡ true → LiveBefore n
      told_before k n index on = subst LiveBefore (index_is ids n k index).1 (was_live k on)

      fewer : (b n : ℕ) (t : Option ℕ) → b < length new.blocks → number b ≡ n → ((k : ℕ) → is_target t k ≡ true → LiveBefore k) →
          live_by new.blocks x b t ≡ true → slice_index_or before b false ≡ true
      fewer b n t inside is known e = (exact b (omega (arith, inside, as_many))).1 (thin.fewer b t inside e sp resolve known)

      told : (n : ℕ) → WalkedIn sp new.blocks resolve x (λ k. Told k) (from_block new.blocks n) 0 → Told n
      told n = by_blocks (from_block new.blocks n) refl where
        by_blocks : (fbs : List Block) → from_block new.blocks n ≡ fbs → WalkedIn sp new.blocks resolve x (λ k. Told k) fbs 0 → Told n
        by_blocks [] e walk = absurd walk
        by_blocks (c ∷ cs) e walk =
            let found = block_found new.blocks n c cs e in
            let b = found.0 in
            let at = found.1 in
            let one : b + 1 ≡ suc b = omega arith in
            let after : next_of cs ≡ slice_get ids (b + 1) = ap next_of at.rest ∙ (next_of-drop new.blocks (suc b) ∙ ap (slice_get ids) (sym one)) in (
              b,
              at.index,
              here b c at.at (id_is new.blocks b c at.at ∙ at.id)
                  (split x (λ k. Told k) c.items (slice_get ids (b + 1)) (subst (λ (o : Option ℕ). LiveFrom x (λ k. Told k) c.items o) after walk)),
            ) where
              here : (b : ℕ) (c : Block) → slice_get new.blocks b ≡ Some c → number b ≡ n →
                  LiveFrom x (At None) c.items (slice_get ids (b + 1))
                  ⊎ ByOne (λ k. Told k) (ways c.items (slice_get ids (b + 1))) (λ t. LiveFrom x (At t) c.items (slice_get ids (b + 1))) → Found b
              here b c at is (inl used) =
                  let own = alone_by new.blocks x sp resolve apart b c None at used in (
                    fewer b n None (slice_get_within new.blocks b c at) is (no_target LiveBefore) own,
                    elim (cases_Bool (slice_index_or doubted b false)) [
                      | inl doubt ↦ absurd (both_ways (live_by new.blocks x b None) (unused ((doubts b).0 doubt)) own)
                      | inr none ↦ inl none
                    ],
                  )
              here b c at is (inr (m, (k, index, (on, how)), listed, by)) =
                  let inside = slice_get_within new.blocks b c at in
                  let one = alone_by new.blocks x sp resolve apart b c (Some m) at by in
                  let pass : passes_up new.blocks x k b ≡ true = ap (λ (o : Option ℕ). live_by new.blocks x b o) (number_at ids m k index) ∙ one in
                  let way : Contains (ways_of new.blocks b) m =
                  subst (λ (is : List Item). Contains (ways is (slice_get ids (b + 1))) m) (sym (items_at_is new.blocks b c at)) listed in (
                    fewer b n (Some m) inside is (one_target LiveBefore m (told_before k m index on)) one,
                    elim (cases_Bool (slice_index_or doubted b false)) [
                      | inl doubt ↦ inr (by_one b inside m k index on how pass way doubt)
                      | inr none ↦ inl none
                    ],
                  ) where
                    by_one : (b : ℕ) → b < length new.blocks → (m k : ℕ) → index_in ids m ≡ Some k → slice_index_or before k false ≡ true →
                        (slice_index_or doubted k false ≡ false) ⊎ IsIn stays k → passes_up new.blocks x k b ≡ true → Contains (ways_of new.blocks b) m →
                        IsIn doubted b → IsIn stays b
                    by_one b inside m k index on (inl sure) pass way doubt =
                        let held_by : is_held_by new.blocks x before doubted b k ≡ true =
                        and_from (slice_index_or before k false) (not (slice_index_or doubted k false) && passes_up new.blocks x k b) on
                        (and_from (not (slice_index_or doubted k false)) (passes_up new.blocks x k b) (not_from_false (slice_index_or doubted k false) sure) pass) in
                        let some = any_here (λ j. is_held_by new.blocks x before doubted b j) (ways_at down b) k (d.each b inside m k way index) held_by in
                        (exactly b).1 (begins (holds.all b inside (and_from (slice_index_or doubted b false)
                        (list_any (λ j. is_held_by new.blocks x before doubted b j) (ways_at down b)) doubt some)))
                    by_one b inside m k index on (inr stay) pass way doubt =
                        (exactly b).1 (goes {m = k} ((exactly k).0 stay) (u.each b m k inside way index)
                        (and_from (slice_index_or doubted b false) (passes_up new.blocks x k b) doubt pass))

      pub still_exact : (b : ℕ) → b < length new.blocks → (is_still_live before doubted stays b ≡ true) ↔ LiveNow (number b)
      still_exact b inside = (λ on. by_flags on, λ live. by_walk (told (number b) (live_is_walked sp new.blocks resolve x (λ k. Told k) told live))) where
        by_flags : is_still_live before doubted stays b ≡ true → LiveNow (number b)
        by_flags on =
            let parts = and_parts (slice_index_or before b false) (not (slice_index_or doubted b false) || slice_index_or stays b false) on in
            elim (or_cases (not (slice_index_or doubted b false)) (slice_index_or stays b false) parts.1) [
              | inl sure ↦ certain b parts.0 (not-true (slice_index_or doubted b false) sure)
              | inr stay ↦ stays_live ((exactly b).0 stay)
            ]

        by_walk : Told (number b) → is_still_live before doubted stays b ≡ true
        by_walk (k, index, (on, how)) =
            let same : k ≡ b = some_is k b (sym index ∙ index_of b inside) in
            subst (λ (j : ℕ). is_still_live before doubted stays j ≡ true) same
            (and_from (slice_index_or before k false) (not (slice_index_or doubted k false) || slice_index_or stays k false) on (by_case k how)) where
              some_is : (a c : ℕ) → Some a ≡ Some c → a ≡ c
              some_is a c e = cc

              by_case : (k : ℕ) → (slice_index_or doubted k false ≡ false) ⊎ IsIn stays k →
                  (not (slice_index_or doubted k false) || slice_index_or stays k false) ≡ true
              by_case k (inl sure) =
                  or_left (not (slice_index_or doubted k false)) (slice_index_or stays k false) (not_from_false (slice_index_or doubted k false) sure)
              by_case k (inr stay) = or_right (not (slice_index_or doubted k false)) (slice_index_or stays k false) stay
