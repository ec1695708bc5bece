use Rattle.std.proofs.Common.{arith, refl, ◌∷◌, []}
use Rattle.std.proofs.lemmas.List.Elements.{All-from_recursion, All-nil}
use Rattle.elf_load.specs.Load.{IsPlaced, IsCallSite, IsApart}
use Rattle.test_sections.proofs.loaded.is_loaded.Goals as goal

pub load-requires : goal.load-requires
load-requires c = record {
  fits = omega arith;
  placed = All-from_recursion (IsPlaced c.args.row.now.base) (c.symbol.result ∷ c.symbol-2.result ∷ []) ((λ _. omega arith), ((λ ne. absurd (ne c.symbol-2.ensures.section)), tt));
  sites = All-from_recursion (IsCallSite 44 2) (record { offset = 16; symbol = 2; relocation_type = 19; addend = 0 } ∷ []) (
    record { relocation_type = refl; addend = refl; some = omega arith; symbol = omega arith; within = omega arith },
    tt,
  );
  apart = (All-nil (IsApart (record { offset = 16; symbol = 2; relocation_type = 19; addend = 0 })), tt);
}
