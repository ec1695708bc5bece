-- How the loop over a function's entries goes on: a row is pushed where the state changes.
use Rattle.std.proofs.Common.{◌≡◌, ◌≢◌, ℕ, suc, ◌+◌, ◌<◌, ◌≤◌, Bool, true, false, cond, ◌&&◌, Option, List, [], ◌∷◌, ◌++◌, map, length, get_or, drop}
use Rattle.std.proofs.Common.{refl, sym, ap, ◌∙◌, subst, append_assoc, append-nil, arith}
use Rattle.std.proofs.lemmas.Bool.{false≢true}
use Rattle.std.proofs.lemmas.List.{drop_all}
use Rattle.mir_func.specs.Function.{FramedFunction}
use Rattle.emit_code.specs.declared.code.EncodedInstruction.{EncodedInstruction}
use Rattle.frame_proof.specs.Stands.{FrameState, frame_state}
use Rattle.dwarf_frame.specs.declared.table.FrameRow.{FrameRow}
use Rattle.dwarf_frame.specs.declared.table.Row.{Row}
use Rattle.dwarf_frame.specs.Rows.{Changes, NoEntry, Same, Other}
use Rattle.dwarf_frame.specs.Table.{is_saved, none_saved, initial}
use Rattle.frame_table.specs.Table.{distances_from, frame_row, position_of, entry_row}
use Rattle.frame_table.proofs.Distances.{none_distant}
use Rattle.frame_table.proofs.Standing.{drop_item, state}

-- ---- states whose rows are equal

-- whether the function saves registers
abbrev saves_in : FramedFunction → Bool
saves_in f = is_saved (distances_from f 0 32)

abbrev saved_row : FramedFunction → Bool → List (Option ℕ)
saved_row f saved = cond saved (distances_from f 0 32) none_saved

abbrev rules_of : (offset : ℕ) → List (Option ℕ) → FrameRow
rules_of offset saved = record { cfa_offset = offset; saved = saved }

-- where no register is saved, it makes no difference whether they are
masked : (f : FramedFunction) (saved saves : Bool) → saves ≡ saves_in f → saved_row f (saved && saves) ≡ saved_row f saved
masked f false saves is = refl
masked f true true is = refl
masked f true false is = sym (none_distant f (sym is))

tells : (f : FramedFunction) (saved : Bool) → (saved ≡ true → saves_in f ≡ true) → is_saved (saved_row f saved) ≡ saved
tells f true saves = saves refl
tells f false saves = refl

same_states : (f : FramedFunction) (a b : FrameState) → (a.saved ≡ true → saves_in f ≡ true) → (b.saved ≡ true → saves_in f ≡ true)
    → frame_row f a ≡ frame_row f b → (a.lowered ≡ b.lowered) × (a.saved ≡ b.saved)
same_states f a b in_a in_b same = (
  ap (λ (r : FrameRow). r.cfa_offset) same,
  sym (tells f a.saved in_a) ∙ ap (λ (r : FrameRow). is_saved r.saved) same ∙ tells f b.saved in_b,
)

-- ---- the rows so far

-- the rows so far, and those of the entries that are left, are the rows of all entries
pub record SoFar (f : FramedFunction) (all left : List EncodedInstruction) (before : FrameRow) (rows : List Row) : Type 0 where
  pub go : (more : List Row) → Changes before (map (entry_row f) left) more → Changes (initial 0).rules (map (entry_row f) all) (rows ++ more)

-- the same before the entry of this index, at a state that is saved only in a function that saves registers
pub record Gone (f : FramedFunction) (saves : Bool) (all : List EncodedInstruction) (i lowered : ℕ) (saved : Bool) (rows : List Row) : Type 0 where
  pub so : SoFar f all (drop i all) (frame_row f (state lowered saved)) rows
  pub only : saved ≡ true → saves ≡ true

pub begin : (f : FramedFunction) (saves : Bool) (all : List EncodedInstruction) → Gone f saves all 0 0 false []
begin f saves all = record {
  so = record { go = λ more changes. changes };
  only = λ is. absurd (false≢true is);
}

-- the state at an entry
pub record IsStateOf (f : FramedFunction) (saves : Bool) (e : EncodedInstruction) (now : ℕ) (held : Bool) : Type 0 where
  pub lowered : now ≡ (frame_state f (position_of e.point)).lowered
  pub saved : held ≡ ((frame_state f (position_of e.point)).saved && saves)

row_is : (f : FramedFunction) (saves : Bool) (e : EncodedInstruction) (lowered : ℕ) (saved : Bool) → saves ≡ saves_in f
    → IsStateOf f saves e lowered saved → frame_row f (state lowered saved) ≡ (entry_row f e).rules
row_is f saves e lowered saved are is =
    ap (λ n. rules_of n (saved_row f saved)) is.lowered
    ∙ ap (rules_of (frame_state f (position_of e.point)).lowered)
    (ap (saved_row f) is.saved ∙ masked f (frame_state f (position_of e.point)).saved saves are)

only_saving : (saved b saves : Bool) → saved ≡ (b && saves) → saved ≡ true → saves ≡ true
only_saving saved true saves is true_is = sym is ∙ true_is
only_saving saved false saves is true_is = absurd (false≢true (sym is ∙ true_is))

next_item : (all : List EncodedInstruction) (i : ℕ) (e : EncodedInstruction) → i < length all → e ≡ get_or all i e → drop i all ≡ e ∷ drop (i + 1) all
next_item all i e inside is =
    let next : suc i ≡ i + 1 = omega arith in drop_item all i e inside is ∙ ap (λ n. e ∷ drop n all) next

pub same_state : (f : FramedFunction) (saves : Bool) (all : List EncodedInstruction) (i : ℕ) (e : EncodedInstruction) (lowered : ℕ) (saved : Bool)
    (rows : List Row) (now : ℕ) (held : Bool) → saves ≡ saves_in f → i < length all → e ≡ get_or all i e → IsStateOf f saves e now held
    → lowered ≡ now → saved ≡ held → Gone f saves all i lowered saved rows → Gone f saves all (i + 1) lowered saved rows
same_state f saves all i e lowered saved rows now held are inside at is same_lowered same_saved gone =
    let rules : (entry_row f e).rules ≡ frame_row f (state lowered saved) =
    sym (row_is f saves e now held are is) ∙ ap (λ n. frame_row f (state n held)) (sym same_lowered) ∙ ap (λ b. frame_row f (state lowered b)) (sym same_saved) in
    let so : SoFar f all (e ∷ drop (i + 1) all) (frame_row f (state lowered saved)) rows =
    subst (λ left. SoFar f all left (frame_row f (state lowered saved)) rows) (next_item all i e inside at) gone.so in
    record { so = record { go = λ more changes. so.go more (Same rules changes) }; only = gone.only }

pub new_state : (f : FramedFunction) (saves : Bool) (all : List EncodedInstruction) (i : ℕ) (e : EncodedInstruction) (lowered : ℕ) (saved : Bool)
    (rows : List Row) (now : ℕ) (held : Bool) (r : FrameRow) → saves ≡ saves_in f → i < length all → e ≡ get_or all i e → IsStateOf f saves e now held
    → ((lowered ≡ now) × (saved ≡ held) → ⊥) → r ≡ frame_row f (state now held) → Gone f saves all i lowered saved rows
    → Gone f saves all (i + 1) now held (rows ++ record { address = e.address; rules = r } ∷ [])
new_state f saves all i e lowered saved rows now held r are inside at is apart rules gone =
    let in_now : held ≡ true → saves ≡ true = only_saving held (frame_state f (position_of e.point)).saved saves is.saved in
    let row : frame_row f (state now held) ≡ (entry_row f e).rules = row_is f saves e now held are is in
    let other : (entry_row f e).rules ≢ frame_row f (state lowered saved) =
    λ same. apart
    (same_states f (state lowered saved) (state now held) (λ h. sym are ∙ gone.only h) (λ h. sym are ∙ in_now h) (sym (row ∙ same))) in
    let so : SoFar f all (e ∷ drop (i + 1) all) (frame_row f (state lowered saved)) rows =
    subst (λ left. SoFar f all left (frame_row f (state lowered saved)) rows) (next_item all i e inside at) gone.so in
    let pushed : SoFar f all (drop (i + 1) all) (entry_row f e).rules (rows ++ entry_row f e ∷ []) = record {
      go = λ more changes. subst (Changes (initial 0).rules (map (entry_row f) all)) (sym (append_assoc rows (entry_row f e ∷ []) more))
          (so.go (entry_row f e ∷ more) (Other other changes));
    } in
    record {
      so =
          subst (λ x. SoFar f all (drop (i + 1) all) x (rows ++ record { address = e.address; rules = r } ∷ [])) (sym row)
          (subst (λ x. SoFar f all (drop (i + 1) all) (entry_row f e).rules (rows ++ record { address = e.address; rules = x } ∷ [])) (sym (rules ∙ row)) pushed);
      only = in_now;
    }

pub done : (f : FramedFunction) (saves : Bool) (all : List EncodedInstruction) (i lowered : ℕ) (saved : Bool) (rows : List Row) → length all ≤ i
    → Gone f saves all i lowered saved rows → Changes (initial 0).rules (map (entry_row f) all) rows
done f saves all i lowered saved rows past gone =
    let so : SoFar f all [] (frame_row f (state lowered saved)) rows =
    subst (λ left. SoFar f all left (frame_row f (state lowered saved)) rows) (drop_all i all past) gone.so in
    subst (Changes (initial 0).rules (map (entry_row f) all)) (append-nil rows) (so.go [] NoEntry)
