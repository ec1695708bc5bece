-- How a reader goes on over the fields of an entry, and where it finds a fault in them.
use Rattle.std.specs.Prelude.{◌≢◌}
use Rattle.std.proofs.Common.{◌≡◌, ℕ, ◌+◌, ◌^◌, ◌<◌, ◌≤◌, List, [], ◌∷◌, ◌++◌, length, take, drop, arith, ap, sym, subst, ◌∙◌, refl, length-append, length-take}
use Rattle.std.proofs.Common.{append-nil}
use Rattle.std.specs.List.{flat_map}
use Rattle.std.proofs.lemmas.List.{take-append-drop}
use Rattle.std.proofs.lemmas.List.Concat.{flat_map-append}
use Rattle.dwarf_loclists.specs.Standard.{DW_LLE_offset_pair}
use Rattle.dwarf_base.specs.Leb.{uleb_of}
use Rattle.dwarf_loclists.specs.declared.range.Location.{Location}
use Rattle.dwarf_loclists.specs.declared.range.Range.{Range}
use Rattle.dwarf_loclists.specs.Ranges.{Ascend}
use Rattle.dwarf_loclists.specs.Spelling.{entry, expression, Spells}
use Rattle.dwarf_loclists.specs.Fault.{StartOffset, EndOffset, ExpressionLength, Expression, EntryKind, FaultAt}
use Rattle.dwarf_loclists.specs.steps.Reader.{StandsAt, Last, EntryRead}
use Rattle.dwarf_loclists.proofs.OneLocation.{uleb_one}
use Rattle.dwarf_loclists.proofs.OneReading.{cut}
use Rattle.dwarf_loclists.proofs.ReaderLemmas.{step, stuck}
use Rattle.dwarf_loclists.proofs.LastLemmas.{last_more}

-- how many bytes an entry more takes
pub entry_size : (ranges : List Range) (r : Range) → length (flat_map entry (ranges ++ r ∷ []))
    ≡ length (flat_map entry ranges) + (1 + length (uleb_of r.lo) + length (uleb_of r.hi) + length (uleb_of (length (expression r.location))) + length
    (expression r.location))
entry_size ranges r =
    let whole : length (flat_map entry (ranges ++ r ∷ [])) ≡ length (flat_map entry ranges ++ flat_map entry (r ∷ []))
    = ap length (flat_map-append entry ranges (r ∷ [])) in
    omega (
      arith,
      whole,
      length-append (flat_map entry ranges) (flat_map entry (r ∷ [])),
      ap length (append-nil (entry r)),
      length-append ((DW_LLE_offset_pair ∷ uleb_of r.lo ++ uleb_of r.hi) ++ uleb_of (length (expression r.location))) (expression r.location),
      length-append (DW_LLE_offset_pair ∷ uleb_of r.lo ++ uleb_of r.hi) (uleb_of (length (expression r.location))),
      length-append (uleb_of r.lo) (uleb_of r.hi),
    )

module _ (bytes : List ℕ) (n : ℕ) (done : List (List Range)) (ranges : List Range) where
  pub start_on : (rest after last : List ℕ) (lo end : ℕ) → StandsAt bytes (StartOffset n done ranges) rest → Last ranges end last → rest ≡ uleb_of lo ++ after
      → lo < 2 ^ 64
      → end ≤ lo → StandsAt bytes (EndOffset n done ranges lo) after
  start_on rest after last lo end s l e fits from =
      step bytes (StartOffset n done ranges) (EndOffset n done ranges lo) (uleb_of lo) rest after s e (lo, fits, l.begins lo from, refl, refl) refl

  pub start_none : (rest : List ℕ) (at : ℕ) → StandsAt bytes (StartOffset n done ranges) rest → at + length rest ≡ length bytes
      → ((m : ℕ) (after : List ℕ) → m < 2 ^ 64 → rest ≢ uleb_of m ++ after) → FaultAt bytes at
  start_none rest at s is none =
      stuck bytes (StartOffset n done ranges) rest at s (λ done e. cc) is
      (λ here behind next e m. none m.0 behind m.1 (e ∙ ap (λ (xs : List ℕ). xs ++ behind) m.3))

  pub start_low : (rest after last : List ℕ) (lo end at : ℕ) → StandsAt bytes (StartOffset n done ranges) rest → Last ranges end last → rest
      ≡ uleb_of lo ++ after → lo < end
      → at + length rest ≡ length bytes → FaultAt bytes at
  start_low rest after last lo end at s l e below is =
      stuck bytes (StartOffset n done ranges) rest at s (λ done e. cc) is
      (λ here behind next split m.
      let found = uleb_one lo m.0 after behind (sym e ∙ split ∙ ap (λ (xs : List ℕ). xs ++ behind) m.3) in
      let from = l.ends m.0 m.2 in
      omega (arith, found.0, from))

  pub end_on : (rest after : List ℕ) (lo hi : ℕ) → StandsAt bytes (EndOffset n done ranges lo) rest → rest ≡ uleb_of hi ++ after → hi < 2 ^ 64 → lo < hi
      → StandsAt bytes (ExpressionLength n done ranges lo hi) after
  end_on rest after lo hi s e fits order =
      step bytes (EndOffset n done ranges lo) (ExpressionLength n done ranges lo hi) (uleb_of hi) rest after s e (hi, fits, order, refl, refl) refl

  pub end_none : (rest : List ℕ) (lo at : ℕ) → StandsAt bytes (EndOffset n done ranges lo) rest → at + length rest ≡ length bytes
      → ((m : ℕ) (after : List ℕ) → m < 2 ^ 64 → rest ≢ uleb_of m ++ after) → FaultAt bytes at
  end_none rest lo at s is none =
      stuck bytes (EndOffset n done ranges lo) rest at s (λ done e. cc) is
      (λ here behind next e m. none m.0 behind m.1 (e ∙ ap (λ (xs : List ℕ). xs ++ behind) m.3))

  pub end_low : (rest after : List ℕ) (lo hi at : ℕ) → StandsAt bytes (EndOffset n done ranges lo) rest → rest ≡ uleb_of hi ++ after → hi ≤ lo
      → at + length rest ≡ length bytes → FaultAt bytes at
  end_low rest after lo hi at s e below is =
      stuck bytes (EndOffset n done ranges lo) rest at s (λ done e. cc) is
      (λ here behind next split m.
      let found = uleb_one hi m.0 after behind (sym e ∙ split ∙ ap (λ (xs : List ℕ). xs ++ behind) m.3) in
      omega (arith, found.0, m.2))

  pub length_on : (rest after : List ℕ) (lo hi len : ℕ) → StandsAt bytes (ExpressionLength n done ranges lo hi) rest → rest ≡ uleb_of len ++ after
      → len < 2 ^ 64
      → StandsAt bytes (Expression n done ranges lo hi len) after
  length_on rest after lo hi len s e fits =
      step bytes (ExpressionLength n done ranges lo hi) (Expression n done ranges lo hi len) (uleb_of len) rest after s e (len, fits, refl, refl) refl

  pub length_none : (rest : List ℕ) (lo hi at : ℕ) → StandsAt bytes (ExpressionLength n done ranges lo hi) rest → at + length rest ≡ length bytes
      → ((m : ℕ) (after : List ℕ) → m < 2 ^ 64 → rest ≢ uleb_of m ++ after) → FaultAt bytes at
  length_none rest lo hi at s is none =
      stuck bytes (ExpressionLength n done ranges lo hi) rest at s (λ done e. cc) is
      (λ here behind next e m. none m.0 behind m.1 (e ∙ ap (λ (xs : List ℕ). xs ++ behind) m.2))

  pub expression_cut : (rest : List ℕ) (lo hi len at : ℕ) → StandsAt bytes (Expression n done ranges lo hi len) rest → length rest < len → at + length rest
      ≡ length bytes
      → FaultAt bytes at
  expression_cut rest lo hi len at s short is =
      stuck bytes (Expression n done ranges lo hi len) rest at s (λ done e. cc) is
      (λ here behind next split m. omega (arith, m.2, ap length split, length-append here behind))

  -- the bytes that the expression may be are those that stand there
  the_front : (rest here behind : List ℕ) (len : ℕ) → len ≤ length rest → rest ≡ here ++ behind → length here ≡ len → here ≡ take len rest
  the_front rest here behind len room split size =
      (cut here (take len rest) behind (drop len rest) (omega (arith, length-take len rest)) (sym split ∙ sym (take-append-drop len rest))).0

  pub expression_wrong : (rest : List ℕ) (lo hi len at : ℕ) → StandsAt bytes (Expression n done ranges lo hi len) rest → len ≤ length rest
      → ((l : Location) → Spells (take len rest) l → ⊥) → at + length rest ≡ length bytes → FaultAt bytes at
  expression_wrong rest lo hi len at s room none is =
      stuck bytes (Expression n done ranges lo hi len) rest at s (λ done e. cc) is
      (λ here behind next split m. none m.0 (subst (λ (xs : List ℕ). Spells xs m.0) (the_front rest here behind len room split m.2) m.1))

  pub expression_same : (rest last : List ℕ) (lo hi len end at : ℕ) → StandsAt bytes (Expression n done ranges lo hi len) rest → len ≤ length rest
      → Last ranges end last
      → lo ≡ end → take len rest ≡ last → at + length rest ≡ length bytes → FaultAt bytes at
  expression_same rest last lo hi len end at s room l touch same is =
      stuck bytes (Expression n done ranges lo hi len) rest at s (λ done e. cc) is
      (λ here behind next split m.
      l.same (record { lo = lo; hi = hi; location = m.0 }) m.1.located m.3 touch (sym m.1.spelled ∙ the_front rest here behind len room split m.2 ∙ same))

  pub entry_on : (rest last : List ℕ) (lo hi len end : ℕ) (location : Location) → StandsAt bytes (Expression n done ranges lo hi len) rest → len ≤ length rest
      → Last ranges end last → end ≤ lo → lo < hi → Spells (take len rest) location → (lo ≡ end → take len rest ≢ last)
      → EntryRead bytes n done ranges lo hi (take len rest) (drop len rest)
  entry_on rest last lo hi len end location s room l from order spells apart =
      let r : Range = record { lo = lo; hi = hi; location = location } in
      let ascend : Ascend (ranges ++ r ∷ []) = l.apart r spells.located from order (λ touch e. apart touch (spells.spelled ∙ e)) in
      let size : length (take len rest) ≡ len = omega (arith, length-take len rest) in
      record {
        location = location;
        spells = spells;
        stands = step bytes (Expression n done ranges lo hi len) (EntryKind n done (ranges ++ r ∷ [])) (take len rest) rest (drop len rest) s
            (sym (take-append-drop len rest))
            (location, spells, size, ascend, refl) (omega (
              arith,
              entry_size ranges r,
              ap length spells.spelled,
              ap (λ (m : ℕ). length (uleb_of m)) (sym (ap
                  length spells.spelled) ∙ size),
              size,
            ));
        last = subst (λ (xs : List ℕ). Last (ranges ++ r ∷ []) hi xs) (sym spells.spelled) (last_more ranges r ascend spells.located);
        order = order;
        before = l.begins lo from;
      }
