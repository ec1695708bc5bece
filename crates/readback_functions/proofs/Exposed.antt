-- What isn't read in the linked language exposes nothing, and has no constants and no fixed objects.
use Rattle.std.proofs.Common.{◌≡◌, Bool, false, [], Result, Ok, Err, refl, sym, ap, subst, ◌∙◌}
use Rattle.mir_exposure.specs.declared.exposure.Exposure.TheVariants.{Nothing}
use Rattle.mir_func.specs.Function.{Function}
use Rattle.mir_func.specs.Objects.{HasNoFixed}
use Rattle.read_refusal.specs.declared.first.Refusal.{Refusal}
use Rattle.read_metadata.specs.Maps.{Maps}
use Rattle.read_documents.specs.declared.parts.FunctionDocument.{FunctionDocument}
use Rattle.read_declarations.specs.declared.declarations.Declarations.{Declarations}
use Rattle.read_declarations.specs.Declarations.{refusal_of, declared_of, declarations_of}
use Rattle.read_declarations.specs.Exposure.{exposure_of}
use Rattle.read_declarations.proofs.PoolEntries.{plain_pool, plain_fixed}
use Rattle.read_body.specs.declared.body.Body.{Body}
use Rattle.read_program.specs.declared.closing.Parsed.{Parsed}
use Rattle.read_program.specs.BodyLines.{body_of}
use Rattle.read_program.specs.Closing.{all_objects, ParsesParts, Parses}
use Rattle.read_program.proofs.Frames.{objects_unfixed}
use Rattle.readback_functions.proofs.NameFunctions.{checked_is}

pub exposes_nothing : (doc : FunctionDocument) (d : Declarations) → declarations_of doc ≡ Ok d → doc.linked ≡ false → d.exposure ≡ Nothing
exposes_nothing doc d declared plain =
    ap (λ (x : Declarations). x.exposure) (sym (checked_is (refusal_of doc) (declared_of doc) d declared))
    ∙ ap (λ (b : Bool). exposure_of b doc.twice) plain

by_parts : (doc : FunctionDocument) (p : Parsed) (d : Result Declarations Refusal) (body : Result Body Refusal) → declarations_of doc ≡ d →
    doc.linked ≡ false → ParsesParts doc.linked doc.closed d body (Ok p) → p.exposure ≡ Nothing
by_parts doc p (Ok d) (Ok body) declared plain closes = closes.4 ∙ exposes_nothing doc d declared plain
by_parts doc p (Ok d) (Err s) declared plain refused = absurd refused
by_parts doc p (Err r) (Ok body) declared plain refused = absurd refused
by_parts doc p (Err r) (Err s) declared plain refused = absurd refused

pub function_exposes_nothing : (meta : Maps) (doc : FunctionDocument) (p : Parsed) → doc.linked ≡ false → Parses meta doc (Ok p) → p.exposure ≡ Nothing
function_exposes_nothing meta doc p plain parses =
    by_parts doc p (declarations_of doc) (body_of doc.linked meta doc.body) refl plain parses

none_by_parts : (doc : FunctionDocument) (p : Parsed) (d : Result Declarations Refusal) (body : Result Body Refusal) → declarations_of doc ≡ d →
    doc.linked ≡ false → ParsesParts doc.linked doc.closed d body (Ok p) → p.pool ≡ []
none_by_parts doc p (Ok d) (Ok body) declared plain closes = closes.5 ∙ plain_pool doc d declared plain
none_by_parts doc p (Ok d) (Err s) declared plain refused = absurd refused
none_by_parts doc p (Err r) (Ok body) declared plain refused = absurd refused
none_by_parts doc p (Err r) (Err s) declared plain refused = absurd refused

pub function_has_no_constants : (meta : Maps) (doc : FunctionDocument) (p : Parsed) → doc.linked ≡ false → Parses meta doc (Ok p) → p.pool ≡ []
function_has_no_constants meta doc p plain parses = none_by_parts doc p (declarations_of doc) (body_of doc.linked meta doc.body) refl plain parses

fixed_by_parts : (doc : FunctionDocument) (p : Parsed) (d : Result Declarations Refusal) (body : Result Body Refusal) → declarations_of doc ≡ d →
    doc.linked ≡ false → ParsesParts doc.linked doc.closed d body (Ok p) → HasNoFixed p.func.objects
fixed_by_parts doc p (Ok d) (Ok body) declared plain closes =
    subst HasNoFixed (sym (ap (λ (f : Function). f.objects) closes.1 ∙ ap (all_objects body.objects d.stack) (plain_fixed doc d declared plain)))
    (objects_unfixed body.objects d.stack)
fixed_by_parts doc p (Ok d) (Err s) declared plain refused = absurd refused
fixed_by_parts doc p (Err r) (Ok body) declared plain refused = absurd refused
fixed_by_parts doc p (Err r) (Err s) declared plain refused = absurd refused

pub function_has_no_fixed : (meta : Maps) (doc : FunctionDocument) (p : Parsed) → doc.linked ≡ false → Parses meta doc (Ok p) → HasNoFixed p.func.objects
function_has_no_fixed meta doc p plain parses = fixed_by_parts doc p (declarations_of doc) (body_of doc.linked meta doc.body) refl plain parses
