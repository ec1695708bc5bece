use Rattle.std.proofs.Common.{ℕ, List, Vec, Global, nat_cmp, ap, ◌∙◌}
use Rattle.std.specs.Cmp.Lexicographic.{slice_cmp}
use Rattle.std.specs.Map.{lookup}
use Rattle.std.specs.BTreeMap.{is_at}
use Rattle.read_metadata.specs.Maps.{Maps}
use Rattle.read_metadata.specs.Metadata.{subprogram_at}
use Rattle.read_metadata.proofs.MapLemmas.{get-subprograms_in}
use Rattle.read_metadata.proofs.metadata.Metadata.subprogram_of.Goals as goal

pub returns : goal.returns
returns c =
    c.copied.ensures ∙ c.get.ensures.value ∙ ap (λ (q : List ℕ). lookup
    (is_at (λ (k : Vec ℕ Global). slice_cmp nat_cmp q k.items)) c.self.inside.subprograms.entries) c.as_slice.ensures
    ∙ get-subprograms_in c.args.name.now c.self.inside.subprograms.entries ∙ ap (λ (m : Maps). subprogram_at m c.args.name.now) c.self.view_is
