-- From entry to entry the tracks say more, and in the end they are the lists.
use Rattle.std.proofs.Common.{◌≡◌, ℕ, zero, suc, ◌<◌, ◌≤◌, List, [], ◌∷◌, ◌++◌, length, take, drop, arith, refl, sym, ◌∙◌, ap, subst}
use Rattle.std.specs.Prelude.{Some, slice_get, slice_index_or, All}
use Rattle.std.proofs.lemmas.Option.{slice_get_within, get_or_from_slice_get, slice_get-get_or}
use Rattle.std.proofs.lemmas.List.Elements.{All-get_or}
use Rattle.mir_func.specs.declared.block.Block.{Block}
use Rattle.mir_func.specs.declared.item.Item.{Item}
use Rattle.mir_func.specs.declared.position.Pos.{Pos}
use Rattle.mir_func.specs.declared.variable.VarId.{VarId}
use Rattle.mir_func.specs.Function.{FramedFunction}
use Rattle.mir_func.specs.Graph.{Program, Here, block_start, end_of, front, fetch_in}
use Rattle.value_tracker.specs.declared.index.TrackedIndex.{TrackedIndex}
use Rattle.emit_code.specs.declared.code.EncodedInstruction.{EncodedInstruction}
use Rattle.emit_code.specs.Laid.{StandFrom, IsOfItem}
use Rattle.dwarf_loclists.specs.declared.range.Range.{Range}
use Rattle.dwarf_loclists.specs.Ranges.{Ascend}
use Rattle.location_of_variable.specs.declared.group.Group.{Group}
use Rattle.location_of_variable.specs.Groups.{AreGroupsOf}
use Rattle.location_of_variable.specs.VariableLocation.{AreWantedPlaces}
use Rattle.location_ranges.specs.declared.ranges.Walk.{Walk}
use Rattle.location_ranges.specs.declared.track.Track.{Track}
use Rattle.location_ranges.specs.declared.values.Values.{Values}
use Rattle.location_ranges.specs.Covered.{IsTrackTo}
use Rattle.location_ranges.specs.Lists.{point_of, AreRangesOf, AreListsOf}
use Rattle.location_ranges.specs.Stands.{program, AreValuesOf, Stands}
use Rattle.location_ranges.specs.steps.Places.{ArePlacesAt}
use Rattle.location_ranges.specs.steps.Saying.{TurnsBy, TurnedBelow, begin_at, IsNew, Closes}
use Rattle.location_ranges.specs.steps.Walk.{IsPointIn, HaveSaid}
use Rattle.location_ranges.proofs.Turning.{tracks_are_ranges}
use Rattle.location_ranges.proofs.Looking.{places_wanted}
use Rattle.location_ranges.proofs.Still.{one_at, same_itself}
use Rattle.location_ranges.proofs.Saying.{at_end, track_more, says_more, says_none, track_none, says_all}

-- ---- points of entries

no_item_at_end : (source_end : ℕ) (bs : List Block) (i : Item) → end_of source_end bs ≡ Here i → ⊥
no_item_at_end source_end [] i e = cc
no_item_at_end source_end (b ∷ bs) i e = cc

here_within : (items : List Item) (k source_end : ℕ) (bs : List Block) (i : Item) → front (drop k items) source_end bs ≡ Here i → k < length items
here_within [] zero source_end bs i e = absurd (no_item_at_end source_end bs i e)
here_within [] (suc k) source_end bs i e = absurd (no_item_at_end source_end bs i e)
here_within (x ∷ xs) zero source_end bs i e = omega arith
here_within (x ∷ xs) (suc k) source_end bs i e = let h = here_within xs k source_end bs i e in omega (arith, h)

fetched_block : (blocks : List Block) (b k : ℕ) (i : Item) → fetch_in (drop b blocks) k ≡ Here i →
    (block : Block) × (slice_get blocks b ≡ Some block) × (k ≤ length block.items)
fetched_block [] zero k i e = cc
fetched_block [] (suc b) k i e = cc
fetched_block (x ∷ xs) zero k i e = (x, refl, let h = here_within x.items k x.source_end xs i e in omega (arith, h))
fetched_block (x ∷ xs) (suc b) k i e = fetched_block xs b k i e

pub points_in : (f : FramedFunction) (entries : List EncodedInstruction) → All (IsOfItem f) entries → All (IsPointIn f.blocks) entries
points_in f entries are = λ k d lt.
    let e = slice_index_or entries k d in
    let at = are k d lt in
    fetched_block f.blocks e.point.block e.point.item at.item at.stands

-- ---- one entry more

pub back_is : {A : Type 0} (n : ℕ) (xs ys : List A) → length xs ≡ n → take n (xs ++ ys) ≡ xs
back_is {A} n xs ys e = subst (λ (m : ℕ). take m (xs ++ ys) ≡ xs) e (front_is xs ys) where
  front_is : (xs ys : List A) → take (length xs) (xs ++ ys) ≡ xs
  front_is [] ys = refl
  front_is (x ∷ xs) ys = ap (λ (zs : List A). x ∷ zs) (front_is xs ys)

module _ (blocks : List Block) (v : Values) (index : TrackedIndex) (entries : List EncodedInstruction) (variables : List VarId) (base end : ℕ)
    (stand : StandFrom base entries end) (groups : List Group) (of : AreGroupsOf v.variables.now variables groups) where
  abbrev g : Program
  g = program blocks v.subs.now

  -- what the track of a number has turned to
  record Turned (w : Walk) (e : EncodedInstruction) (old : List Track) (k : ℕ) (u : Track) : Type 0 where
    track : Track
    group : Group
    was : slice_get old k ≡ Some track
    mine : slice_get groups k ≡ Some group
    turns : TurnsBy group w.places.items e.address track u

  turned_at : (w : Walk) (e : EncodedInstruction) (old : List Track) → length old ≡ length groups →
      TurnedBelow groups w.places.items e.address old (length groups) w.tracks.items → (k : ℕ) (u : Track) → slice_get w.tracks.items k ≡ Some u →
      Turned w e old k u
  turned_at w e old as_many turned k u at =
      let t = one_at old w.tracks.items k u (sym turned.for_all) at in
      let group = one_at groups old k t.0 (sym as_many) t.1 in
      record {
        track = t.0;
        group = group.0;
        was = t.1;
        mine = group.1;
        turns = turned.done k group.0 t.0 u (slice_get_within groups k group.0 group.1) group.1 t.1 at;
      }

  pub have_said_more : (i : ℕ) (e : EncodedInstruction) (w : Walk) (old : List Track) → slice_get entries i ≡ Some e → length old ≡ length groups →
      length w.places.items ≡ length v.variables.now → (AreValuesOf blocks v → Stands blocks v index w.stand) → w.stand.block ≡ e.point.block →
      w.stand.item ≡ e.point.item → ArePlacesAt w.stand w.places.items →
      TurnedBelow groups w.places.items e.address old (length groups) w.tracks.items → HaveSaid blocks v entries variables base i old →
      HaveSaid blocks v entries variables base (suc i) w.tracks.items
  have_said_more i e w old at as_many count stands block item places turned said = record {
    ascend = λ k u at_u.
        let t = turned_at w e old as_many turned k u at_u in
        track_more g (block_start 0) base end entries stand i e t.track u t.turns.to at t.turns.turns (said.ascend k t.track t.was);
    say = λ are k variable u at_v at_u.
        let t = turned_at w e old as_many turned k u at_u in
        let wanted = subst (λ (p : Pos). AreWantedPlaces g (block_start 0) p v.variables.now w.places.items)
        (λ j. record { block = block j; item = item j }) (places_wanted blocks v index are w.stand (stands are) w.places.items count places) in
        let mine = of.each k variable t.group at_v t.mine in
        let by = t.turns.by w.places.items (same_itself t.group w.places.items) in
        says_more g (block_start 0) base end entries stand variable i e t.track u t.turns.to at t.turns.turns (said.ascend k t.track t.was)
        (by.wanted g (block_start 0) (point_of e) v.variables.now variable wanted mine)
        (by.listed g (block_start 0) (point_of e) v.variables.now variable wanted mine)
        (said.say are k variable t.track at_v t.was);
  }

-- ---- the beginning and the end

module _ (blocks : List Block) (v : Values) (entries : List EncodedInstruction) (variables : List VarId) (base end : ℕ)
    (stand : StandFrom base entries end) where
  abbrev program_of : Program
  program_of = program blocks v.subs.now

  new_at : (tracks : List Track) → All IsNew tracks → (k : ℕ) (t : Track) → slice_get tracks k ≡ Some t → IsNew t
  new_at tracks new k t at = subst IsNew (get_or_from_slice_get tracks k t t at) (All-get_or IsNew tracks k t (slice_get_within tracks k t at) new)

  pub have_said_none : (tracks : List Track) → All IsNew tracks → HaveSaid blocks v entries variables base 0 tracks
  have_said_none tracks new = record {
    ascend = λ k t at.
        let is = new_at tracks new k t at in
        track_none program_of (block_start 0) base end entries stand t (begin_at base entries 0) is.ranges is.present;
    say = λ are k variable t at_v at.
        let is = new_at tracks new k t at in
        says_none program_of (block_start 0) base end entries stand variable t is.ranges is.present;
  }

  module _ (tracks : List Track) (lists : List (List Range)) (said : HaveSaid blocks v entries variables base (length entries) tracks)
      (closes : Closes tracks end lists) where
    pub lists_are : length tracks ≡ length variables → AreValuesOf blocks v → AreListsOf program_of (block_start 0) entries variables lists
    lists_are count are = record {
      for_all = closes.for_all ∙ count;
      each = λ k variable ranges at_v at.
          let c = closes.each k ranges at in
          subst (λ (rs : List Range). AreRangesOf program_of (block_start 0) entries variable rs) (sym c.2)
          (says_all program_of (block_start 0) base end entries stand variable c.0 (said.say are k variable c.0 at_v c.1)
          (tracks_are_ranges c.0 end (subst (IsTrackTo (c.0)) (at_end base end entries stand) (said.ascend k c.0 c.1))).0);
    }

    pub lists_ascend : All Ascend lists
    lists_ascend = λ k d lt.
        let c = closes.each k (slice_index_or lists k d) (slice_get-get_or lists k d lt) in
        subst Ascend (sym c.2) (tracks_are_ranges c.0 end (subst (IsTrackTo (c.0)) (at_end base end entries stand) (said.ascend k c.0 c.1))).0
