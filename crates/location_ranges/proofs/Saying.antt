-- A track that has turned at an entry says what it should of one entry more.
--
-- Entries stand one after the other, so each of those before an entry ends by its address, and each of those after it begins behind it.
-- Below the address the track says what it said; at the entry's bytes, its new location; and from the next entry's address on, nothing.
use Rattle.std.proofs.Common.{◌≡◌, ℕ, zero, suc, ◌+◌, ◌<◌, ◌≤◌, List, [], ◌∷◌, ◌++◌, length, arith, refl, sym, ◌∙◌, ap, subst, inl, inr, append-nil}
use Rattle.std.specs.Prelude.{Option, Some, None, Bool, true, false, cond, slice_get, slice_index_or, Contains}
use Rattle.std.proofs.lemmas.Bool.{cases_lt}
use Rattle.std.proofs.lemmas.Bool.Decides.{eqb_tells}
use Rattle.std.proofs.lemmas.Option.{slice_get_read, slice_get_within, get_or_from_slice_get}
use Rattle.std.proofs.lemmas.List.Elements.{All-nil, All-cons, All-append}
use Rattle.mir_func.specs.declared.position.Pos.{Pos}
use Rattle.mir_func.specs.declared.variable.VarId.{VarId}
use Rattle.mir_func.specs.Graph.{Program}
use Rattle.emit_code.specs.declared.code.EncodedInstruction.{EncodedInstruction}
use Rattle.emit_code.specs.Laid.{StandFrom}
use Rattle.dwarf_loclists.specs.declared.range.Location.{Location}
use Rattle.dwarf_loclists.specs.declared.range.Range.{Range}
use Rattle.dwarf_loclists.specs.Ranges.{Ascend, ArePlaces, IsLocated, location_in}
use Rattle.location_of_variable.specs.VariableLocation.{IsWantedLocation, MayBeListed}
use Rattle.location_ranges.specs.declared.track.Open.{Open}
use Rattle.location_ranges.specs.declared.track.Track.{Track}
use Rattle.location_ranges.specs.Covered.{range, closed, opened, covered, Turns, stays, turns, AscendTo, IsTrackTo}
use Rattle.location_ranges.specs.Turning.{SaysOn}
use Rattle.location_ranges.specs.Lists.{point_of, HasByte, AreRangesOf}
use Rattle.location_ranges.specs.steps.Saying.{begin_at, Says}
use Rattle.location_ranges.proofs.Turning.{turns_say_on, tracks_are_ranges}

-- ---- entries

size_some : (b : Bool) → 0 < cond b 8 4
size_some true = omega arith
size_some false = omega arith

pub size_is : (a end : ℕ) (es : List EncodedInstruction) (i : ℕ) (e : EncodedInstruction) → StandFrom a es end → slice_get es i ≡ Some e → 0 < e.size
size_is a end [] i e stand at = absurd (let no : None ≡ Some e = at in cc)
size_is a end (x ∷ es) zero e stand at =
    let same : x ≡ e = cc in
    subst (λ (z : EncodedInstruction). 0 < z.size) same (let s = size_some x.call in let is = stand.1 in omega (arith, s, is))
size_is a end (x ∷ es) (suc i) e stand at = size_is (a + x.size) end es i e stand.2 at

pub at_entry : (a end : ℕ) (es : List EncodedInstruction) (i : ℕ) (e : EncodedInstruction) → StandFrom a es end → slice_get es i ≡ Some e →
    e.address ≡ begin_at a es i
at_entry a end [] i e stand at = absurd (let no : None ≡ Some e = at in cc)
at_entry a end (x ∷ es) zero e stand at = let same : x ≡ e = cc in subst (λ (z : EncodedInstruction). z.address ≡ a) same stand.0
at_entry a end (x ∷ es) (suc i) e stand at = at_entry (a + x.size) end es i e stand.2 at

pub begin_first : (a : ℕ) (es : List EncodedInstruction) → begin_at a es 0 ≡ a
begin_first a [] = refl
begin_first a (x ∷ es) = refl

pub past_entry : (a : ℕ) (es : List EncodedInstruction) (i : ℕ) (e : EncodedInstruction) → slice_get es i ≡ Some e →
    begin_at a es (suc i) ≡ begin_at a es i + e.size
past_entry a [] i e at = absurd (let no : None ≡ Some e = at in cc)
past_entry a (x ∷ es) zero e at = let same : x ≡ e = cc in begin_first (a + x.size) es ∙ ap (λ (z : EncodedInstruction). a + z.size) same
past_entry a (x ∷ es) (suc i) e at = past_entry (a + x.size) es i e at

pub at_end : (a end : ℕ) (es : List EncodedInstruction) → StandFrom a es end → begin_at a es (length es) ≡ end
at_end a end [] stand = stand
at_end a end (x ∷ es) stand = at_end (a + x.size) end es stand.2

below_begin : (a : ℕ) (es : List EncodedInstruction) (i : ℕ) → a ≤ begin_at a es i
below_begin a [] i = omega arith
below_begin a (x ∷ es) zero = omega arith
below_begin a (x ∷ es) (suc i) = let h = below_begin (a + x.size) es i in omega (arith, h)

-- an entry before another ends by its address
pub ends_by : (a end : ℕ) (es : List EncodedInstruction) (i n : ℕ) (e : EncodedInstruction) → StandFrom a es end → n < i → slice_get es n ≡ Some e →
    e.address + e.size ≤ begin_at a es i
ends_by a end [] i n e stand lt at = absurd (let no : None ≡ Some e = at in cc)
ends_by a end (x ∷ es) zero n e stand lt at = absurd (omega (arith, lt))
ends_by a end (x ∷ es) (suc i) zero e stand lt at =
    let same : x ≡ e = cc in
    let h = below_begin (a + x.size) es i in
    let is = stand.0 in
    subst (λ (z : EncodedInstruction). z.address + z.size ≤ begin_at (a + x.size) es i) same (omega (arith, h, is))
ends_by a end (x ∷ es) (suc i) (suc n) e stand lt at = ends_by (a + x.size) end es i n e stand.2 (omega (arith, lt)) at

-- ---- places

all_located : (xs : List Range) (o : Option Open) → ((b : ℕ) → ArePlaces (xs ++ closed o b)) → (a : ℕ) (l : Option Location) → MayBeListed l → (b : ℕ) →
    ArePlaces ((xs ++ closed o a) ++ closed (opened a l) b)
all_located xs o places a None listed b = subst ArePlaces (sym (append-nil (xs ++ closed o a))) (places a)
all_located xs o places a (Some l) listed b =
    All-append (λ (r : Range). IsLocated r.location) (xs ++ closed o a) (range a b l ∷ []) (places a)
    (All-cons (λ (r : Range). IsLocated r.location) (range a b l) [] listed (All-nil (λ (r : Range). IsLocated r.location)))

covered_is : (u : Track) (xs : List Range) (o : Option Open) → u.ranges ≡ xs → u.present ≡ o → (b : ℕ) → xs ++ closed o b ≡ covered u b
covered_is u xs o ranges present b = λ i. sym ranges i ++ closed (sym present i) b

pub turned_places : (t u : Track) (a : ℕ) (l : Option Location) → Turns t a l u → MayBeListed l → ((b : ℕ) → ArePlaces (covered t b)) → (b : ℕ) →
    ArePlaces (covered u b)
turned_places t u a l (stays same ranges present) listed places b = subst ArePlaces (covered_is u t.ranges t.present ranges present b) (places b)
turned_places t u a l (turns differs ranges present) listed places b =
    subst ArePlaces (covered_is u (covered t a) (opened a l) ranges present b) (all_located t.ranges t.present places a l listed b)

-- ---- one entry more

module _ (g : Program) (start : Pos) (base end : ℕ) (entries : List EncodedInstruction) (stand : StandFrom base entries end) where
  -- where the entry of an index begins
  abbrev from : ℕ → ℕ
  from i = begin_at base entries i

  further : (i : ℕ) (e : EncodedInstruction) → slice_get entries i ≡ Some e →
      (from (suc i) ≡ e.address + e.size) × (from i ≡ e.address) × (from i < from (suc i))
  further i e at =
      let is = at_entry base end entries i e stand at in
      let past = past_entry base entries i e at in
      let some = size_is base end entries i e stand at in
      (past ∙ ap (λ (n : ℕ). n + e.size) (sym is), sym is, omega (arith, past, some))

  pub track_more : (i : ℕ) (e : EncodedInstruction) (t u : Track) (o : Option Location) → slice_get entries i ≡ Some e → Turns t e.address o u →
      IsTrackTo t (from i) →
      IsTrackTo u (from (suc i))
  track_more i e t u o at turned track =
      let f = further i e at in
      (turns_say_on t u (from i) (from (suc i)) o track f.2 (subst (λ (n : ℕ). Turns t n o u) (sym f.1) turned)).track

  pub says_more : (v : VarId) (i : ℕ) (e : EncodedInstruction) (t u : Track) (o : Option Location) → slice_get entries i ≡ Some e → Turns t e.address o u →
      IsTrackTo t (from i) → IsWantedLocation g start v (point_of e) o → MayBeListed o → Says g start entries v i (from i) t →
      Says g start entries v (suc i) (from (suc i)) u
  says_more v i e t u o at turned track wanted listed says = record {
    inside = inside;
    outside = outside;
    places = turned_places t u e.address o turned listed says.places;
  } where
    f : (from (suc i) ≡ e.address + e.size) × (from i ≡ e.address) × (from i < from (suc i))
    f = further i e at

    on : SaysOn t (from i) o u (from (suc i))
    on = turns_say_on t u (from i) (from (suc i)) o track f.2 (subst (λ (n : ℕ). Turns t n o u) (sym f.1) turned)

    here : (x : ℕ) → HasByte e x → location_in (covered u (from (suc i))) x ≡ o
    here x has =
        let a = has.0 in
        let b = has.1 in
        let begins = f.1 in
        let ends = f.0 in
        on.here x (omega (arith, a, begins)) (omega (arith, b, ends))

    inside : (n : ℕ) (d : EncodedInstruction) → n < suc i → slice_get entries n ≡ Some d → (x : ℕ) → HasByte d x →
        IsWantedLocation g start v (point_of d) (location_in (covered u (from (suc i))) x)
    inside n d lt is x has = elim (eqb_tells n i) [
      | inl h ↦
          let both : Some e ≡ Some d = sym at ∙ (ap (slice_get entries) (sym h.1) ∙ is) in
          let same : e ≡ d = cc in
          subst (λ (z : EncodedInstruction). IsWantedLocation g start v (point_of z) (location_in (covered u (from (suc i))) x)) same
          (subst (IsWantedLocation g start v (point_of e)) (sym (here x (subst (λ (z : EncodedInstruction). HasByte z x) (sym same) has))) wanted)
      | inr h ↦
          let ne = h.1 in
          let before : n < i = omega (arith, lt, ne) in
          let by = ends_by base end entries i n d stand before is in
          let b = has.1 in
          subst (IsWantedLocation g start v (point_of d)) (sym (on.before x (omega (arith, by, b)))) (says.inside n d before is x has)
    ]

    outside : (x : ℕ) → ((d : EncodedInstruction) → Contains entries d → HasByte d x → ⊥) → location_in (covered u (from (suc i))) x ≡ None
    outside x none = elim (cases_lt x (from i)) [
      | inl lt ↦ on.before x lt ∙ says.outside x none
      | inr le ↦ elim (cases_lt x (from (suc i))) [
        | inl lt ↦ absurd (
            let begins = f.1 in
            let ends = f.0 in
            none e (i, slice_get_within entries i e at, get_or_at entries i e at) (omega (arith, le, begins), omega (arith, lt, ends)))
        | inr past ↦ (tracks_are_ranges u (from (suc i)) on.track).1 x past
      ]
    ] where
      get_or_at : (xs : List EncodedInstruction) (k : ℕ) (y : EncodedInstruction) → slice_get xs k ≡ Some y → slice_index_or xs k y ≡ y
      get_or_at xs k y at = get_or_from_slice_get xs k y y at

  -- no entry yet
  pub says_none : (v : VarId) (t : Track) → t.ranges ≡ [] → t.present ≡ None → Says g start entries v 0 (from 0) t
  says_none v t ranges present = record {
    inside = λ n e lt. absurd (omega (arith, lt));
    outside = λ x none. ap (λ (xs : List Range). location_in xs x) (sym (covered_is t [] None ranges present (from 0)));
    places = λ b. subst ArePlaces (covered_is t [] None ranges present b) (All-nil (λ (r : Range). IsLocated r.location));
  }

  pub track_none : (t : Track) (a : ℕ) → t.ranges ≡ [] → t.present ≡ None → IsTrackTo t a
  track_none t a ranges present =
      subst (λ (xs : List Range). AscendTo xs t.present a) (sym ranges) (subst (λ (o : Option Open). AscendTo [] o a) (sym present)
      (tt, All-nil (λ (r : Range). r.hi < a)))

  -- all entries
  pub says_all : (v : VarId) (t : Track) → Says g start entries v (length entries) (from (length entries)) t → Ascend (covered t end) →
      AreRangesOf g start entries v (covered t end)
  says_all v t says up = record {
    inside = λ e (k, lt, is) x has. subst (λ (a : ℕ). IsWantedLocation g start v (point_of e) (location_in (covered t a) x)) (at_end base end entries stand)
        (says.inside k e lt (slice_get_read entries (length entries) k e refl lt (sym is)) x has);
    outside = λ x none. subst (λ (a : ℕ). location_in (covered t a) x ≡ None) (at_end base end entries stand) (says.outside x none);
    places = says.places end;
    ascend = up;
  }
