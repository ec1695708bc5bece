-- From address to address the tracks tell more, and in the end they are the lists.
use Rattle.std.proofs.Common.{◌≡◌, ℕ, zero, suc, ◌+◌, ◌<◌, ◌≤◌, List, [], ◌∷◌, ◌++◌, length, arith, refl, sym, ◌∙◌, ap, subst, inl, inr, lt-ltb, le-ltb}
use Rattle.std.specs.Prelude.{Option, Some, None, Bool, true, false, cond, slice_get, slice_index_or, All}
use Rattle.std.proofs.lemmas.Bool.{cases_lt}
use Rattle.std.proofs.lemmas.Option.{slice_get_read, slice_get_within, get_or_from_slice_get, slice_get-get_or}
use Rattle.std.proofs.lemmas.List.Elements.{All-nil, All-get_or}
use Rattle.rv64_instr.specs.declared.place.Place.{Place}
use Rattle.mir_func.specs.declared.block.Block.{Block}
use Rattle.mir_func.specs.declared.position.Pos.{Pos}
use Rattle.mir_func.specs.declared.variable.VarId.{VarId}
use Rattle.mir_func.specs.Graph.{Program, block_start}
use Rattle.mir_func.specs.Successors.{pos_in}
use Rattle.emit_code.specs.declared.code.EncodedInstruction.{EncodedInstruction}
use Rattle.emit_code.specs.Laid.{StandFrom}
use Rattle.dwarf_loclists.specs.declared.range.Location.{Location}
use Rattle.dwarf_loclists.specs.declared.range.Range.{Range}
use Rattle.dwarf_loclists.specs.Ranges.{Ascend, ArePlaces, IsLocated, location_in}
use Rattle.value_tracker.specs.declared.index.TrackedIndex.{TrackedIndex}
use Rattle.location_of_variable.specs.declared.group.Group.{Group}
use Rattle.location_of_variable.specs.Groups.{AreGroupsOf}
use Rattle.location_of_variable.specs.VariableLocation.{AreWantedPlaces, IsLocationFor, MayBeListed}
use Rattle.location_ranges.specs.declared.ranges.Walk.{Walk}
use Rattle.location_ranges.specs.declared.track.Track.{Track}
use Rattle.location_ranges.specs.declared.values.Values.{Values}
use Rattle.location_ranges.specs.Covered.{closed, covered, Turns, IsTrackTo}
use Rattle.location_ranges.specs.Lists.{point_of}
use Rattle.location_ranges.specs.Stands.{program, AreValuesOf, Stands}
use Rattle.location_ranges.specs.Turning.{SaysOn}
use Rattle.location_ranges.specs.steps.Places.{ArePlacesAt}
use Rattle.location_ranges.specs.steps.Saying.{TurnsBy, TurnedBelow, IsNew, Closes, begin_at}
use Rattle.location_ranges.specs.steps.Walk.{Fits}
use Rattle.location_ranges.proofs.Looking.{places_wanted}
use Rattle.location_ranges.proofs.Saying.{at_entry, past_entry, turned_places, track_none}
use Rattle.location_ranges.proofs.Still.{one_at, same_itself}
use Rattle.location_ranges.proofs.Turning.{turns_say_on, tracks_are_ranges}
use Rattle.kept_ranges.specs.Calls.{lookup_of, passed_at, suspended_at}
use Rattle.kept_ranges.specs.Lists.{IsLocationIn, IsLocationAt, AreKeptRangesOf, AreKeptListsOf}
use Rattle.kept_ranges.specs.steps.Places.{AreKeptPlaces}
use Rattle.kept_ranges.specs.steps.Walk.{HasTurned, IsPast, IsTold, TellsTo, HaveTold}
use Rattle.kept_ranges.proofs.Entries.{behind, one_entry, entry_at, ends_within}
use Rattle.kept_ranges.proofs.Keeping.{places_kept}
use Rattle.kept_ranges.proofs.Locating.{location_gives}

-- ---- one track

-- a track that has turned tells of the addresses up to a later one
tells_more : (Told : ℕ → Option Location → Type 0) (base a b : ℕ) (t u : Track) (o : Option Location) → base ≤ a → a < b → Turns t a o u → IsTrackTo t a →
    ((x : ℕ) → a ≤ x → x < b → Told x o) → MayBeListed o → TellsTo Told base a t → TellsTo Told base b u
tells_more Told base a b t u o le less turned track here listed tells = record {
  inside = λ x lt. elim (cases_lt x a) as (λ _. Told x (location_in (covered u b) x)) [
    | inl before ↦ subst (Told x) (sym (on.before x before)) (tells.inside x before)
    | inr from ↦ subst (Told x) (sym (on.here x from lt)) (here x from lt)
  ];
  below = λ x lt. on.before x (omega (arith, lt, le)) ∙ tells.below x lt;
  places = turned_places t u a o turned listed tells.places;
} where
  on : SaysOn t a o u b
  on = turns_say_on t u a b o track less turned

-- ---- all tracks

module _ (blocks : List Block) (v : Values) (entries : List EncodedInstruction) (variables : List VarId) (base : ℕ) (groups : List Group)
    (of : AreGroupsOf v.variables.now variables groups) where
  abbrev g : Program
  g = program blocks v.subs.now

  -- what the track of a number has turned to
  record Turned (places : List (Option Place)) (a : ℕ) (old : List Track) (k : ℕ) (u : Track) : Type 0 where
    track : Track
    group : Group
    was : slice_get old k ≡ Some track
    mine : slice_get groups k ≡ Some group
    turns : TurnsBy group places a track u

  turned_at : (places : List (Option Place)) (a : ℕ) (old new : List Track) → length old ≡ length groups →
      TurnedBelow groups places a old (length groups) new → (k : ℕ) (u : Track) → slice_get new k ≡ Some u → Turned places a old k u
  turned_at places a old new as_many turned k u at =
      let t = one_at old new k u (sym turned.for_all) at in
      let group = one_at groups old k t.0 (sym as_many) t.1 in
      record {
        track = t.0;
        group = group.0;
        was = t.1;
        mine = group.1;
        turns = turned.done k group.0 t.0 u (slice_get_within groups k group.0 group.1) group.1 t.1 at;
      }

  -- these places are those of an entry, in the frame that stands there or in one that is suspended there
  abbrev ArePlacesIn : Pos → Option (List ℕ) → List (Option Place) → Type 0
  ArePlacesIn p None places = AreWantedPlaces g (block_start 0) p v.variables.now places
  ArePlacesIn p (Some passed) places = AreKeptPlaces g (block_start 0) p passed v.variables.now places

  located : (p : Pos) (passed : Option (List ℕ)) (places : List (Option Place)) → ArePlacesIn p passed places → (k : ℕ) (variable : VarId) (group : Group)
      (o : Option Location) → slice_get variables k ≡ Some variable → slice_get groups k ≡ Some group → IsLocationFor group places o →
      MayBeListed o × IsLocationIn g (block_start 0) variable p passed o
  located p None places are k variable group o at_v at_g by =
      let mine = of.each k variable group at_v at_g in
      let it = by places (same_itself group places) in
      (it.listed g (block_start 0) p v.variables.now variable are mine, it.wanted g (block_start 0) p v.variables.now variable are mine)
  located p (Some passed) places are k variable group o at_v at_g by =
      location_gives g (block_start 0) p passed v.variables.now places are variable group (of.each k variable group at_v at_g) o
      (by places (same_itself group places))

  module _ (end : ℕ) (stand : StandFrom base entries end) (i : ℕ) (e : EncodedInstruction) (at : slice_get entries i ≡ Some e) where
    -- between two of its addresses an entry has one location
    told_by : (variable : VarId) (passed : Option (List ℕ)) (o : Option Location) (a b : ℕ) → e.address ≤ a → b ≤ e.address + e.size →
        ((x : ℕ) → a ≤ x → x < b → suspended_at g e x ≡ passed) → IsLocationIn g (block_start 0) variable (point_of e) passed o → (x : ℕ) → a ≤ x → x < b →
        IsTold blocks v entries variable x o
    told_by variable passed o a b le high is location x from lt f (j, within, same) has =
        let there : slice_get entries j ≡ Some f = slice_get_read entries (length entries) j f refl within (sym same) in
        let one = one_entry base end entries stand i j e f at there x (omega (arith, le, from), omega (arith, lt, high)) has in
        subst (λ (z : EncodedInstruction). IsLocationAt g (block_start 0) variable z x o) one
        (subst (λ (z : Option (List ℕ)). IsLocationIn g (block_start 0) variable (point_of e) z o) (sym (is x from lt)) location)

    pub have_told_more : (passed : Option (List ℕ)) (places : List (Option Place)) (a b : ℕ) (old new : List Track) → base ≤ a → a < b →
        e.address ≤ a → b ≤ e.address + e.size → ((x : ℕ) → a ≤ x → x < b → suspended_at g e x ≡ passed) →
        (AreValuesOf blocks v → ArePlacesIn (point_of e) passed places) → length old ≡ length groups →
        TurnedBelow groups places a old (length groups) new → HaveTold blocks v entries variables base a old → HaveTold blocks v entries variables base b new
    have_told_more passed places a b old new above less le high is are as_many turned told = record {
      ascend = λ k u at_u.
          let t = turned_at places a old new as_many turned k u at_u in
          (turns_say_on t.track u a b t.turns.to (told.ascend k t.track t.was) less t.turns.turns).track;
      tell = λ values k variable u at_v at_u.
          let t = turned_at places a old new as_many turned k u at_u in
          let l = located (point_of e) passed places (are values) k variable t.group t.turns.to at_v t.mine t.turns.by in
          tells_more (IsTold blocks v entries variable) base a b t.track u t.turns.to above less t.turns.turns (told.ascend k t.track t.was)
          (told_by variable passed t.turns.to a b le high is l.1) l.0 (told.tell values k variable t.track at_v t.was);
    }

-- ---- one entry more

-- before its lookup address an entry tells of the frame that stands there
before_lookup : (g : Program) (e : EncodedInstruction) (x : ℕ) → x < lookup_of e → suspended_at g e x ≡ None
before_lookup g e x lt = ap (λ (b : Bool). cond b None (passed_at (g.fetch (point_of e)))) (lt-ltb x (lookup_of e) lt)

pub from_lookup : (g : Program) (e : EncodedInstruction) (x : ℕ) → lookup_of e ≤ x → suspended_at g e x ≡ passed_at (g.fetch (point_of e))
from_lookup g e x le = ap (λ (b : Bool). cond b None (passed_at (g.fetch (point_of e)))) (le-ltb x (lookup_of e) le)

-- the lookup address is within the entry
pub lookup_within : (a size : ℕ) (b : Bool) → size ≡ cond b 8 4 → (a < a + cond b 4 3) × (a + cond b 4 3 < a + size)
lookup_within a size true e = (omega arith, omega (arith, e))
lookup_within a size false e = (omega arith, omega (arith, e))

pub sized : (a end : ℕ) (es : List EncodedInstruction) (i : ℕ) (e : EncodedInstruction) → StandFrom a es end → slice_get es i ≡ Some e → e.size ≡ cond e.call 8 4
sized a end [] i e stand at = absurd (let no : None ≡ Some e = at in cc)
sized a end (x ∷ es) zero e stand at = let same : x ≡ e = cc in subst (λ (z : EncodedInstruction). z.size ≡ cond z.call 8 4) same stand.1
sized a end (x ∷ es) (suc i) e stand at = sized (a + x.size) end es i e stand.2 at

module _ (blocks : List Block) (v : Values) (index : TrackedIndex) (entries : List EncodedInstruction) (variables : List VarId) (base end : ℕ)
    (stand : StandFrom base entries end) (groups : List Group) (of : AreGroupsOf v.variables.now variables groups) where
  abbrev program_of : Program
  program_of = program blocks v.subs.now

  module _ (i : ℕ) (e : EncodedInstruction) (at : slice_get entries i ≡ Some e) (w : Walk) (after : Walk) (fits : Fits v groups w)
      (stands : AreValuesOf blocks v → Stands blocks v index w.stand) (block : w.stand.block ≡ e.point.block) (item : w.stand.item ≡ e.point.item)
      (places : ArePlacesAt w.stand w.places.items) where
    here : pos_in w.stand.block w.stand.item ≡ point_of e
    here = λ j. record { block = block j; item = item j }

    wanted_there : AreValuesOf blocks v →
        AreWantedPlaces program_of (block_start 0) (pos_in w.stand.block w.stand.item) v.variables.now w.places.items
    wanted_there are = places_wanted blocks v index are w.stand (stands are) w.places.items fits.places places

    wanted : AreValuesOf blocks v → AreWantedPlaces program_of (block_start 0) (point_of e) v.variables.now w.places.items
    wanted are = subst (λ (p : Pos). AreWantedPlaces program_of (block_start 0) p v.variables.now w.places.items) here (wanted_there are)

    kept : (passed : List ℕ) → (turned : HasTurned v groups passed (lookup_of e) w after) → AreValuesOf blocks v →
        AreKeptPlaces program_of (block_start 0) (point_of e) passed v.variables.now turned.places
    kept passed turned are =
        subst (λ (p : Pos). AreKeptPlaces program_of (block_start 0) p passed v.variables.now turned.places) here
        (places_kept blocks v index are passed w.stand (stands are) turned.places turned.count turned.are w.places.items (wanted_there are))

    within : (e.address < lookup_of e) × (lookup_of e < e.address + e.size)
    within = lookup_within e.address e.size e.call (sized base end entries i e stand at)

    above : base ≤ e.address
    above = behind base end entries i e stand at

    -- past the entry, by what is passed from it
    past : (old : List Track) → length old ≡ length groups → TurnedBelow groups w.places.items e.address old (length groups) w.tracks.items →
        (q : Option (List ℕ)) → passed_at (program_of.fetch (point_of e)) ≡ q → IsPast v groups q (lookup_of e) w after →
        HaveTold blocks v entries variables base e.address old → HaveTold blocks v entries variables base (e.address + e.size) after.tracks.items
    past old as_many turned None passes is told =
        subst (λ (z : Walk). HaveTold blocks v entries variables base (e.address + e.size) z.tracks.items) (sym is)
        (have_told_more blocks v entries variables base groups of end stand i e at None w.places.items e.address (e.address + e.size) old w.tracks.items above
        (let lt = within.0 in let less = within.1 in omega (arith, lt, less)) (omega arith) (omega arith) still wanted as_many turned told)
      where
        still : (x : ℕ) → e.address ≤ x → x < e.address + e.size → suspended_at program_of e x ≡ None
        still x from lt = elim (cases_lt x (lookup_of e)) [
          | inl below ↦ before_lookup program_of e x below
          | inr later ↦ from_lookup program_of e x later ∙ passes
        ]
    past old as_many turned (Some passed) passes is told =
        have_told_more blocks v entries variables base groups of end stand i e at (Some passed) is.places (lookup_of e) (e.address + e.size) w.tracks.items
        after.tracks.items (let lt = within.0 in let le = above in omega (arith, lt, le)) within.1 (let lt = within.0 in omega (arith, lt)) (omega arith)
        (λ x from lt. from_lookup program_of e x from ∙ passes) (kept passed is) fits.tracks is.turned
        (have_told_more blocks v entries variables base groups of end stand i e at None w.places.items e.address (lookup_of e) old w.tracks.items above within.0
        (omega arith) (let lt = within.1 in omega (arith, lt)) (λ x from lt. before_lookup program_of e x lt) wanted as_many turned told)

    pub have_told_entry : (old : List Track) → length old ≡ length groups →
        TurnedBelow groups w.places.items e.address old (length groups) w.tracks.items →
        IsPast v groups (passed_at (program_of.fetch (point_of e))) (lookup_of e) w after →
        HaveTold blocks v entries variables base (begin_at base entries i) old →
        HaveTold blocks v entries variables base (begin_at base entries (suc i)) after.tracks.items
    have_told_entry old as_many turned is told =
        let begins = at_entry base end entries i e stand at in
        let ends = past_entry base entries i e at in
        let until : e.address + e.size ≡ begin_at base entries (suc i) = ap (λ (n : ℕ). n + e.size) begins ∙ sym ends in
        subst (λ (n : ℕ). HaveTold blocks v entries variables base n after.tracks.items) until
        (past old as_many turned (passed_at (program_of.fetch (point_of e))) refl is
        (subst (λ (n : ℕ). HaveTold blocks v entries variables base n old) (sym begins) told))

-- past an entry the walk stands where it stood
pub same_stand : (v : Values) (groups : List Group) (q : Option (List ℕ)) (a : ℕ) (before after : Walk) → IsPast v groups q a before after →
    after.stand ≡ before.stand
same_stand v groups None a before after is = ap (λ (w : Walk). w.stand) is
same_stand v groups (Some passed) a before after is = is.stand

-- ---- the beginning and the end

module _ (blocks : List Block) (v : Values) (entries : List EncodedInstruction) (variables : List VarId) (base end : ℕ)
    (stand : StandFrom base entries end) where
  abbrev all_program : Program
  all_program = program blocks v.subs.now

  new_at : (tracks : List Track) → All IsNew tracks → (k : ℕ) (t : Track) → slice_get tracks k ≡ Some t → IsNew t
  new_at tracks new k t at = subst IsNew (get_or_from_slice_get tracks k t t at) (All-get_or IsNew tracks k t (slice_get_within tracks k t at) new)

  nothing_covered : (t : Track) → IsNew t → (b : ℕ) → covered t b ≡ []
  nothing_covered t is b = λ i. is.ranges i ++ closed (is.present i) b

  pub have_told_none : (tracks : List Track) → All IsNew tracks → HaveTold blocks v entries variables base base tracks
  have_told_none tracks new = record {
    ascend = λ k t at.
        let is = new_at tracks new k t at in
        track_none all_program (block_start 0) base end entries stand t base is.ranges is.present;
    tell = λ are k variable t at_v at.
        let is = new_at tracks new k t at in
        record {
          inside = λ x lt e (j, within, same) has.
              absurd (let le = behind base end entries j e stand (slice_get_read entries (length entries) j e refl within (sym same)) in
              let low = has.0 in omega (arith, le, low, lt));
          below = λ x lt. ap (λ (rs : List Range). location_in rs x) (nothing_covered t is base);
          places = λ b. subst ArePlaces (sym (nothing_covered t is b)) (All-nil (λ (r : Range). IsLocated r.location));
        };
  }

  module _ (tracks : List Track) (lists : List (List Range)) (told : HaveTold blocks v entries variables base end tracks)
      (closes : Closes tracks end lists) where
    are_ranges : (variable : VarId) (t : Track) → IsTrackTo t end → TellsTo (IsTold blocks v entries variable) base end t →
        AreKeptRangesOf all_program (block_start 0) entries variable (covered t end)
    are_ranges variable t track tells = record {
      inside = λ e (j, within, same) x has.
          let at : slice_get entries j ≡ Some e = slice_get_read entries (length entries) j e refl within (sym same) in
          let ends = ends_within base end entries j e stand at in
          let high = has.1 in
          tells.inside x (omega (arith, ends, high)) e (j, within, same) has;
      outside = λ x none. elim (cases_lt x base) [
        | inl lt ↦ tells.below x lt
        | inr le ↦ elim (cases_lt x end) [
          | inl lt ↦ absurd (let h = entry_at base end entries stand x le lt in none h.0 h.1 h.2)
          | inr past ↦ (tracks_are_ranges t end track).1 x past
        ]
      ];
      places = tells.places end;
      ascend = (tracks_are_ranges t end track).0;
    }

    pub lists_are : length tracks ≡ length variables → AreValuesOf blocks v → AreKeptListsOf all_program (block_start 0) entries variables lists
    lists_are count are = record {
      for_all = closes.for_all ∙ count;
      each = λ k variable ranges at_v at.
          let c = closes.each k ranges at in
          subst (AreKeptRangesOf all_program (block_start 0) entries variable) (sym c.2)
          (are_ranges variable c.0 (told.ascend k c.0 c.1) (told.tell are k variable c.0 at_v c.1));
    }

    pub lists_ascend : All Ascend lists
    lists_ascend = λ k d lt.
        let c = closes.each k (slice_index_or lists k d) (slice_get-get_or lists k d lt) in
        subst Ascend (sym c.2) (tracks_are_ranges c.0 end (told.ascend k c.0 c.1)).0
