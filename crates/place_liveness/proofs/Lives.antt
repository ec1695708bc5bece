-- The blocks to which liveness of a place spreads are those at whose starts it is live.
use Rattle.std.proofs.Common.{◌≡◌, ℕ, suc, ◌+◌, ◌<◌, ◌≤◌, Bool, true, false, List, [], ◌∷◌, length, drop, get_or, Option, Some, None}
use Rattle.std.proofs.Common.{refl, sym, ap, ◌∙◌, inl, inr, arith, subst}
use Rattle.std.specs.Prelude.{◌⊎◌, ◌↔◌, slice_get, slice_index_or, Contains}
use Rattle.std.proofs.lemmas.Bool.{cases_lt, eqb-true}
use Rattle.std.proofs.lemmas.List.{get_or_past, length-map}
use Rattle.std.proofs.lemmas.List.Elements.{All-contains}
use Rattle.std.proofs.lemmas.Option.{slice_get_within, slice_get-get_or, slice_get_cases, get_or_from_slice_get}
use Rattle.graph_spread.specs.dataflow.Graph.{ways_at, IsEdge, IsGraph}
use Rattle.graph_spread.proofs.dataflow.Preds.{none_in}
use Rattle.graph_spread.specs.Spread.{IsIn, Spreads, begins, goes}
use Rattle.pass_liveness.specs.rv64_instr.declared.place.Place.{Place}
use Rattle.pass_liveness.specs.mir_func.declared.block.Block.{Block}
use Rattle.pass_liveness.specs.mir_func.declared.debug_substitution.OperandPair.{OperandPair}
use Rattle.pass_liveness.specs.mir_func.declared.item.Item.{Item}
use Rattle.pass_liveness.specs.mir_func.Graph.{program_of, block_start, from_block, fetch_in}
use Rattle.pass_liveness.specs.mir_func.Sound.{AreApart, ids_of}
use Rattle.pass_liveness.specs.mir_func.Successors.{ways}
use Rattle.pass_liveness.specs.sem_mir.Live.{Live}
use Rattle.pass_liveness.specs.Index.{index_in}
use Rattle.pass_liveness.proofs.Blocks.{block_found, from_block-at, next_of-drop, id_is, index_at, items_at_is}
use Rattle.pass_liveness.proofs.Facts.{walk_facts}
use Rattle.pass_liveness.proofs.Indices.{index_is}
use Rattle.pass_liveness.proofs.Paths.{LiveFrom, WalkedIn, next_of, walk_is_live, live_is_walked}
use Rattle.place_liveness.specs.Alone.{is_target, live_alone, live_by, passes_up, AreSources, AreWaysUp}
use Rattle.place_liveness.proofs.Splits.{At, ByOne, split}

-- an edge leads to a node of the graph
pub edge_inside : (ways : List (List ℕ)) (m n : ℕ) → IsGraph ways → IsEdge ways m n → n < length ways
edge_inside ways m n graph edge = by_test (cases_lt m (length ways)) where
  by_test : (m < length ways) ⊎ (length ways ≤ m) → n < length ways
  by_test (inl lt) = All-contains (λ (k : ℕ). k < length ways) (ways_at ways m) n (graph m [] lt) edge
  by_test (inr le) = absurd (none_in n (subst (λ (zs : List ℕ). Contains zs n) (get_or_past ways m [] le) edge))

-- the block at an index
pub block_at : (blocks : List Block) (b : ℕ) → b < length blocks → (c : Block) × (slice_get blocks b ≡ Some c)
block_at blocks b inside = elim (slice_get_cases blocks b).1 [
  | inl (c, lt, at, is) ↦ (c, at)
  | inr (le, at) ↦ absurd (omega (arith, inside, le))
]

-- what stands at the index of a number
pub number_at : (ids : List ℕ) (n m : ℕ) → index_in ids n ≡ Some m → slice_get ids m ≡ Some n
number_at ids n m e =
    let found = index_is ids n m e in
    slice_get-get_or ids m 0 found.0 ∙ ap (λ (k : ℕ). Some k) found.1

module _ (blocks : List Block) (x : Place) (sp : Bool) (resolve : OperandPair → Option OperandPair) (apart : AreApart (ids_of blocks)) where
  abbrev LiveAt : ℕ → Type 0
  LiveAt n = Live (program_of sp blocks resolve) x (block_start n)

  abbrev number : ℕ → ℕ
  number b = get_or (ids_of blocks) b 0

  abbrev next : ℕ → Option ℕ
  next b = slice_get (ids_of blocks) (b + 1)

  -- what a block alone tells is right
  pub alone_is_live : (b : ℕ) (c : Block) (t : Option ℕ) → slice_get blocks b ≡ Some c → ((n : ℕ) → is_target t n ≡ true → LiveAt n) →
      live_by blocks x b t ≡ true → LiveAt (number b)
  alone_is_live b c t at known e =
      let begins_at = from_block-at blocks b c apart at in
      let one : b + 1 ≡ suc b = omega arith in
      let after : next b ≡ next_of (drop (suc b) blocks) = ap (slice_get (ids_of blocks)) one ∙ sym (next_of-drop blocks (suc b)) in
      let walk : live_alone c.items (next b) x t ≡ true = sym (ap (λ (is : List Item). live_alone is (next b) x t) (items_at_is blocks b c at)) ∙ e in
      let facts : LiveFrom x (At t) c.items (next b) = (walk_facts x (λ n y. is_target t n) c.items (next b)).0 walk in
      subst (λ (n : ℕ). LiveAt n) (sym (id_is blocks b c at))
      (walk_is_live sp blocks resolve x (At t) known c.id 0 c.items c.source_end (drop (suc b) blocks)
      (λ j. let none : 0 + j ≡ j = omega arith in ap (fetch_in (from_block blocks c.id)) none ∙ ap (λ (bs : List Block). fetch_in bs j) begins_at)
      (subst (λ (o : Option ℕ). LiveFrom x (At t) c.items o) after facts))

  -- and is told
  pub alone_by : (b : ℕ) (c : Block) (t : Option ℕ) → slice_get blocks b ≡ Some c → LiveFrom x (At t) c.items (next b) → live_by blocks x b t ≡ true
  alone_by b c t at h =
      ap (λ (is : List Item). live_alone is (next b) x t) (items_at_is blocks b c at) ∙ (walk_facts x (λ n y. is_target t n) c.items (next b)).1 h

  module _ (up : List (List ℕ)) (w : AreWaysUp blocks up) (sources : List ℕ) (s : AreSources blocks x (length blocks) sources) where
    abbrev Found : ℕ → Type 0
    Found b = Spreads up (passes_up blocks x) sources b

    target_is : (m n : ℕ) (o : Option ℕ) → slice_get (ids_of blocks) m ≡ o → is_target o n ≡ true → number m ≡ n
    target_is m n None e h = absurd (let no : false ≡ true = h in cc)
    target_is m n (Some v) e h = get_or_from_slice_get (ids_of blocks) m v 0 e ∙ eqb-true v n h

    found_is_live : {b : ℕ} → Found b → LiveAt (number b)
    found_is_live (begins {n} at) =
        let source = s.right n at in
        let c = block_at blocks n source.0 in
        alone_is_live n c.0 None c.1 (λ k h. absurd (let no : false ≡ true = h in cc)) source.1
    found_is_live (goes {m} {n} f edge pass) =
        let c = block_at blocks n (subst (λ (k : ℕ). n < k) w.long (edge_inside up m n w.graph edge)) in
        alone_is_live n c.0 (slice_get (ids_of blocks) m) c.1
        (λ k h. subst (λ (v : ℕ). LiveAt v) (target_is m k (slice_get (ids_of blocks) m) refl h) (found_is_live f)) pass

    module _ (flags : List Bool) (exact : (b : ℕ) → IsIn flags b ↔ Spreads up (passes_up blocks x) sources b) where
      -- by the index of a block
      abbrev flag_of : Option ℕ → Bool
      flag_of None = false
      flag_of (Some b) = slice_index_or flags b false

      abbrev Flagged : ℕ → Type 0
      Flagged n = flag_of (index_in (ids_of blocks) n) ≡ true

      found_by : (n : ℕ) (o : Option ℕ) → index_in (ids_of blocks) n ≡ o → flag_of o ≡ true → (m : ℕ) × (index_in (ids_of blocks) n ≡ Some m) × Found m
      found_by n None e h = absurd (let no : false ≡ true = h in cc)
      found_by n (Some m) e h = (m, e, (exact m).0 h)

      flagged : (n b : ℕ) → index_in (ids_of blocks) n ≡ Some b → Found b → Flagged n
      flagged n b e f = ap (λ (o : Option ℕ). flag_of o) e ∙ (exact b).1 f

      found_here : (b : ℕ) (c : Block) → slice_get blocks b ≡ Some c →
          LiveFrom x (At None) c.items (next b) ⊎ ByOne (λ n. Flagged n) (ways c.items (next b)) (λ t. LiveFrom x (At t) c.items (next b)) → Found b
      found_here b c at (inl used) = begins (s.all b (slice_get_within blocks b c at) (alone_by b c None at used))
      found_here b c at (inr (n, here, listed, by)) =
          let m = found_by n (index_in (ids_of blocks) n) refl here in
          let edge : IsEdge up m.0 b =
          w.each b n m.0 (slice_get_within blocks b c at)
          (subst (λ (is : List Item). Contains (ways is (next b)) n) (sym (items_at_is blocks b c at)) listed) m.1 in
          goes {m = m.0} m.2 edge
          (ap (λ (o : Option ℕ). live_by blocks x b o) (number_at (ids_of blocks) n m.0 m.1) ∙ alone_by b c (Some n) at by)

      closed : (n : ℕ) → WalkedIn sp blocks resolve x (λ k. Flagged k) (from_block blocks n) 0 → Flagged n
      closed n = by_blocks (from_block blocks n) refl where
        by_blocks : (fbs : List Block) → from_block blocks n ≡ fbs → WalkedIn sp blocks resolve x (λ k. Flagged k) fbs 0 → Flagged n
        by_blocks [] e walk = absurd walk
        by_blocks (c ∷ cs) e walk =
            let found = block_found blocks n c cs e in
            let b = found.0 in
            let is = found.1 in
            let one : b + 1 ≡ suc b = omega arith in
            let after : next_of cs ≡ next b = ap next_of is.rest ∙ (next_of-drop blocks (suc b) ∙ ap (slice_get (ids_of blocks)) (sym one)) in
            flagged n b is.index (found_here b c is.at
            (split x (λ k. Flagged k) c.items (next b) (subst (λ (o : Option ℕ). LiveFrom x (λ k. Flagged k) c.items o) after walk)))

      pub flags_are : (b : ℕ) → b < length blocks → (slice_index_or flags b false ≡ true) ↔ LiveAt (number b)
      flags_are b inside =
          let long = length-map blocks (λ (c : Block). c.id) in
          let id : slice_get (ids_of blocks) b ≡ Some (number b) = slice_get-get_or (ids_of blocks) b 0 (omega (arith, inside, long)) in
          let index : index_in (ids_of blocks) (number b) ≡ Some b = index_at (ids_of blocks) b (number b) apart id in (
            λ on. found_is_live ((exact b).0 on),
            λ live. sym (ap (λ (o : Option ℕ). flag_of o) index) ∙
                closed (number b) (live_is_walked sp blocks resolve x (λ k. Flagged k) closed live),
          )
