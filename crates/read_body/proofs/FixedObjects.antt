-- The fixed objects behind others.
use Rattle.std.proofs.Common.{◌≡◌, ℕ, ◌+◌, List, [], ◌∷◌, ◌++◌, map, length, refl, sym, ap, ◌∙◌, append-nil, arith}
use Rattle.std.proofs.lemmas.List.{length-append, length-map}
use Rattle.mir_func.specs.declared.object.Object.{Object}
use Rattle.read_declarations.specs.declared.fixed.FixedEntry.{FixedEntry}
use Rattle.read_body.specs.FixedObjects.{fixed_object, area_with, with_fixed}

pub with_is : (os : List Object) (es : List FixedEntry) → with_fixed os es ≡ os ++ map (fixed_object (area_with os es)) es
with_is os [] = sym (append-nil os)
with_is os (e ∷ es) = refl

pub length_with : (os : List Object) (es : List FixedEntry) → length (with_fixed os es) ≡ length os + length es
length_with os es =
    let fixed = fixed_object (area_with os es) in
    omega (arith, ap length (with_is os es), length-append os (map fixed es), length-map es fixed)
