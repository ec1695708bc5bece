-- The documents of a text are read one after the other.
use Rattle.std.proofs.Common.{◌≡◌, ℕ, ◌+◌, ◌<◌, ◌≤◌, List, [], ◌∷◌, ◌++◌, length, get_or, drop, Result, Ok, Err, refl, sym, ap, subst, ◌∙◌, arith}
use Rattle.std.proofs.lemmas.List.{drop_more, drop_all}
use Rattle.read_metadata.specs.Maps.{Maps}
use Rattle.read_documents.specs.declared.parts.FunctionDocument.{FunctionDocument}
use Rattle.read_program.specs.declared.closing.Parsed.{Parsed}
use Rattle.read_program.specs.declared.error.ParseError.{ParseError}
use Rattle.read_program.specs.Closing.{Parses}
use Rattle.read_program.specs.declared.error.ParseError.TheVariants as errors
use Rattle.read_program.specs.Program.{MAX_FUNCTIONS, Goes, too_many, FunctionsFrom, UnlessMemory}

-- what is known of an error is said of it
pub known : (X : Type 0) → (e : ParseError) (P : Type 0) → P → UnlessMemory {X = X} (Err e) P
known X errors.Memory P p = tt
known X (errors.Refused r) P p = p

module _ (meta : Maps) (docs : List FunctionDocument) (i : ℕ) (here : FunctionDocument) (before fs : List Parsed)
    (so_far : (answer : Result (List Parsed) ParseError) → FunctionsFrom meta fs (drop i docs) answer → FunctionsFrom meta before docs answer) where
  at_document : i < length docs → here ≡ get_or docs i here → (answer : Result (List Parsed) ParseError)
      → FunctionsFrom meta fs (here ∷ drop (i + 1) docs) answer → FunctionsFrom meta before docs answer
  at_document lt is answer said =
      let parts : drop i docs ≡ here ∷ drop (i + 1) docs =
      drop_more docs i here lt ∙ ap (λ (x : FunctionDocument). x ∷ drop (i + 1) docs) (sym is) in
      so_far answer (subst (λ (ds : List FunctionDocument). FunctionsFrom meta fs ds answer) (sym parts) said)

  -- a document above the limit
  pub full : i < length docs → here ≡ get_or docs i here → MAX_FUNCTIONS ≤ length fs → FunctionsFrom meta before docs (too_many here)
  unfolding FunctionsFrom
  full lt is le = at_document lt is (too_many here) ((λ l. refl), (λ few. absurd (omega (arith, le, few))))

  -- a document that is refused
  pub stopped : i < length docs → here ≡ get_or docs i here → length fs < MAX_FUNCTIONS → (e : ParseError) → Parses meta here (Err e)
      → FunctionsFrom meta before docs (Err e)
  unfolding FunctionsFrom
  stopped lt is few e said = at_document lt is (Err e) ((λ le. absurd (omega (arith, le, few))), (λ l. (Err e, said, refl)))

  -- a document that is parsed
  pub goes_on : i < length docs → here ≡ get_or docs i here → length fs < MAX_FUNCTIONS → (p : Parsed) → Parses meta here (Ok p)
      → (next : List Parsed) → next ≡ fs ++ p ∷ [] → (answer : Result (List Parsed) ParseError)
      → FunctionsFrom meta next (drop (i + 1) docs) answer → FunctionsFrom meta before docs answer
  unfolding FunctionsFrom
  goes_on lt is few p said next made answer more =
      at_document lt is answer (
        (λ le. absurd (omega (arith, le, few))),
        (λ l. (Ok p, said, subst (λ (x : List Parsed). FunctionsFrom meta x (drop (i + 1) docs) answer) made more)),
      )

  -- no document is left
  pub finished : length docs ≤ i → FunctionsFrom meta before docs (Ok fs)
  unfolding FunctionsFrom
  finished all = so_far (Ok fs) (subst (λ (ds : List FunctionDocument). FunctionsFrom meta fs ds (Ok fs)) (sym (drop_all i docs all)) refl)

-- ---- documents behind others

module _ (meta : Maps) (d : FunctionDocument) (docs more : List FunctionDocument) (fs : List Parsed) where
  -- a document of several that were read, where those behind it go on so
  behind_one : (after : List Parsed) (answer : Result (List Parsed) ParseError) →
      ((next : List Parsed) → FunctionsFrom meta next docs (Ok after) → FunctionsFrom meta next (docs ++ more) answer) →
      (read : Result Parsed ParseError) → Goes read (λ (p : Parsed). FunctionsFrom meta (fs ++ p ∷ []) docs (Ok after)) (Ok after) →
      Goes read (λ (p : Parsed). FunctionsFrom meta (fs ++ p ∷ []) (docs ++ more) answer) answer
  behind_one after answer others (Ok p) said = others (fs ++ p ∷ []) said
  behind_one after answer others (Err e) said = absurd cc

  -- one of several of which one was refused
  refused_one : (e : ParseError) → ((next : List Parsed) → FunctionsFrom meta next docs (Err e) → FunctionsFrom meta next (docs ++ more) (Err e)) →
      (read : Result Parsed ParseError) → Goes read (λ (p : Parsed). FunctionsFrom meta (fs ++ p ∷ []) docs (Err e)) (Err e) →
      Goes read (λ (p : Parsed). FunctionsFrom meta (fs ++ p ∷ []) (docs ++ more) (Err e)) (Err e)
  refused_one e others (Ok p) said = others (fs ++ p ∷ []) said
  refused_one e others (Err other) said = said

-- the same documents with some more, which are read behind them
pub FunctionsFrom-append : (meta : Maps) (docs more : List FunctionDocument) (fs after : List Parsed) (answer : Result (List Parsed) ParseError) →
    FunctionsFrom meta fs docs (Ok after) → FunctionsFrom meta after more answer → FunctionsFrom meta fs (docs ++ more) answer
unfolding FunctionsFrom
FunctionsFrom-append meta [] more fs after answer from said =
    let same : after ≡ fs = cc in subst (λ (x : List Parsed). FunctionsFrom meta x more answer) same said
FunctionsFrom-append meta (d ∷ docs) more fs after answer from said = (
  (λ full. absurd (not_ok (from.0 full))),
  (λ few.
      let read = from.1 few in (
        read.0,
        read.1,
        behind_one meta d docs more fs after answer (λ gs begun. FunctionsFrom-append meta docs more gs after answer begun said) read.0 read.2,
      )),
) where
  not_ok : Ok after ≡ too_many d → ⊥
  not_ok e = cc

-- the same documents with some more behind one that is refused
pub FunctionsFrom-refused : (meta : Maps) (docs more : List FunctionDocument) (fs : List Parsed) (e : ParseError) → FunctionsFrom meta fs docs (Err e) →
    FunctionsFrom meta fs (docs ++ more) (Err e)
unfolding FunctionsFrom
FunctionsFrom-refused meta [] more fs e from = absurd cc
FunctionsFrom-refused meta (d ∷ docs) more fs e from = (
  from.0,
  (λ few.
      let read = from.1 few in (
        read.0,
        read.1,
        refused_one meta d docs more fs e (λ gs begun. FunctionsFrom-refused meta docs more gs e begun) read.0 read.2,
      )),
)
