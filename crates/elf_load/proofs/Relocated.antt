-- A text with its call sites relocated.
use Rattle.std.specs.Prelude.{All}
use Rattle.std.specs.Int.{w32, to_le_bytes}
use Rattle.std.specs.List.{AllByRecursion}
use Rattle.std.proofs.Common.{◌≡◌, ℕ, ◌+◌, ◌-◌, ◌^◌, ◌≤◌, ◌<◌, List, [], ◌∷◌, ◌++◌, length, take, drop, get_or}
use Rattle.std.proofs.Common.{arith, ap, sym, ◌∙◌, refl, append_assoc}
use Rattle.std.proofs.lemmas.List.{take-append-drop, drop-drop, drop_at, drop_more, drop_all}
use Rattle.std.proofs.lemmas.List.Elements.{All-from_recursion, recursion_from_All}
use Rattle.rv64_word.specs.MachineOp.{word_of}
use Rattle.sem_machine.proofs.Fetching.{word_here}
use Rattle.elf_object.specs.declared.symbols.Symbol.{Symbol}
use Rattle.elf_object.specs.declared.relocations.Relocation.{Relocation}
use Rattle.elf_load.specs.Load.{addresses, target_of, IsPlaced, IsCallSite, IsApart, AreApart, IsLoadable, IsReached, Calls, IsOutside, IsLoaded}
use Rattle.elf_load.specs.steps.CallWords.{distance, upper_word, jump, call_patched, relocated}
use Rattle.elf_load.proofs.CallSteps.{jump_below, calls_target}
use Rattle.elf_load.proofs.Patches.{length-call, words_here, eight_kept_by_call, byte_kept_by_call}
use Rattle.elf_load.proofs.Addresses.{AreWords, are_words}

module _ (base : ℕ) (targets : List ℕ) (n symbols : ℕ) where
  -- the text with one more call site
  abbrev next : Relocation → List ℕ → List ℕ
  next r bytes = call_patched r.offset (distance (base + r.offset) (target_of targets r)) bytes

  still_long : (r : Relocation) (bytes : List ℕ) → n ≡ length bytes → r.offset + 8 ≤ n → n ≡ length (next r bytes)
  still_long r bytes long within = long ∙ sym (length-call r.offset _ bytes (omega (arith, long, within)))

  length-relocated : (rs : List Relocation) (bytes : List ℕ) → n ≡ length bytes → AllByRecursion (IsCallSite n symbols) rs
      → length (relocated base targets rs bytes) ≡ n
  length-relocated [] bytes long sites = sym long
  length-relocated (r ∷ rest) bytes long sites = length-relocated rest (next r bytes) (still_long r bytes long sites.0.within) sites.1

  eight_kept : (rs : List Relocation) (q : Relocation) (bytes : List ℕ) → n ≡ length bytes → AllByRecursion (IsCallSite n symbols) rs
      → AllByRecursion (IsApart q) rs → take 8 (drop q.offset (relocated base targets rs bytes)) ≡ take 8 (drop q.offset bytes)
  eight_kept [] q bytes long sites apart = refl
  eight_kept (r ∷ rest) q bytes long sites apart =
      eight_kept rest q (next r bytes) (still_long r bytes long sites.0.within) sites.1 apart.1
      ∙ eight_kept_by_call r.offset q.offset _ bytes (omega (arith, long, sites.0.within)) apart.0

  byte_kept : (rs : List Relocation) (k : ℕ) (bytes : List ℕ) → n ≡ length bytes → AllByRecursion (IsCallSite n symbols) rs
      → AllByRecursion (IsOutside k) rs → get_or (relocated base targets rs bytes) k 0 ≡ get_or bytes k 0
  byte_kept [] k bytes long sites outside = refl
  byte_kept (r ∷ rest) k bytes long sites outside =
      byte_kept rest k (next r bytes) (still_long r bytes long sites.0.within) sites.1 outside.1
      ∙ byte_kept_by_call r.offset k _ bytes (omega (arith, long, sites.0.within)) outside.0

  -- a call site with its words calls its target
  site_calls : (whole : List ℕ) (r : Relocation) → base + n < 2 ^ 64 → AreWords targets → IsCallSite n symbols r → IsReached base targets r
      → take 8 (drop r.offset whole)
      ≡ to_le_bytes w32 (upper_word (distance (base + r.offset) (target_of targets r)))
      ++ to_le_bytes w32 (word_of (jump (distance (base + r.offset) (target_of targets r))))
      → Calls whole base (base + r.offset) (target_of targets r)
  site_calls whole r fits are site reach words =
      let d : ℕ = distance (base + r.offset) (target_of targets r) in
      let a : List ℕ = to_le_bytes w32 (upper_word d) in
      let b : List ℕ = to_le_bytes w32 (word_of (jump d)) in
      let rest : List ℕ = drop 8 (drop r.offset whole) in
      let stands : drop r.offset whole ≡ a ++ (b ++ rest) =
      sym (take-append-drop 8 (drop r.offset whole)) ∙ ap (λ (ys : List ℕ). ys ++ rest) words ∙ append_assoc a b rest in
      let second : drop (r.offset + 4) whole ≡ b ++ rest =
      sym (drop-drop 4 r.offset whole) ∙ ap (drop 4) stands ∙ drop_at a (b ++ rest) 4 refl in
      calls_target whole base r.offset (target_of targets r) reach (are (r.symbol - 1)) (omega (arith, fits, site.within))
      (word_here whole (b ++ rest) r.offset (upper_word d) (omega arith) stands)
      (word_here whole rest (r.offset + 4) (word_of (jump d)) (jump_below d) second)

  all_call : (rs : List Relocation) (bytes whole : List ℕ) → n ≡ length bytes → whole ≡ relocated base targets rs bytes → base + n < 2 ^ 64
      → AreWords targets → AllByRecursion (IsCallSite n symbols) rs → AreApart rs → AllByRecursion (IsReached base targets) rs
      → AllByRecursion (λ r. Calls whole base (base + r.offset) (target_of targets r)) rs
  all_call [] bytes whole long is fits are sites apart reach = tt
  all_call (r ∷ rest) bytes whole long is fits are sites apart reach = (
    site_calls whole r fits are sites.0 reach.0 (
        ap (λ (ys : List ℕ). take 8 (drop r.offset ys)) is
        ∙ eight_kept rest r (next r bytes) (still_long r bytes long sites.0.within) sites.1 (recursion_from_All (IsApart r) rest apart.0)
        ∙ words_here r.offset _ bytes (omega (arith, long, sites.0.within))),
    all_call rest (next r bytes) whole (still_long r bytes long sites.0.within) is fits are sites.1 apart.1 reach.1,
  )

-- one more call site is relocated, whose distance is this
pub relocated_more : (base : ℕ) (targets : List ℕ) (rs : List Relocation) (i : ℕ) (d : Relocation) (far : ℕ) (now new whole : List ℕ) → i < length rs
    → relocated base targets (drop i rs) now ≡ whole → new ≡ call_patched (get_or rs i d).offset far now
    → far ≡ distance (base + (get_or rs i d).offset) (target_of targets (get_or rs i d)) → relocated base targets (drop (i + 1) rs) new ≡ whole
relocated_more base targets rs i d far now new whole inside so_far is e =
    ap (relocated base targets (drop (i + 1) rs)) (is ∙ ap (λ (n : ℕ). call_patched (get_or rs i d).offset n now) e)
    ∙ sym (ap (λ (xs : List Relocation). relocated base targets xs now) (drop_more rs i d inside)) ∙ so_far

pub relocated_all : (base : ℕ) (targets : List ℕ) (rs : List Relocation) (i : ℕ) (now whole : List ℕ) → length rs ≤ i
    → relocated base targets (drop i rs) now ≡ whole → now ≡ whole
relocated_all base targets rs i now whole end so_far =
    sym (ap (λ (xs : List Relocation). relocated base targets xs now) (drop_all i rs end)) ∙ so_far

-- ---- what is loaded

pub loaded_long : (text : List ℕ) (symbols : List Symbol) (rs : List Relocation) (base : ℕ) (undefined : List ℕ) → IsLoadable text symbols rs base
    → length (relocated base (addresses base undefined symbols) rs text) ≡ length text
loaded_long text symbols rs base undefined can =
    length-relocated base (addresses base undefined symbols) (length text) (length symbols) rs text refl
    (recursion_from_All (IsCallSite (length text) (length symbols)) rs can.sites)

pub loaded : (text : List ℕ) (symbols : List Symbol) (rs : List Relocation) (base : ℕ) (undefined bytes : List ℕ)
    → IsLoadable text symbols rs base → AreWords undefined → bytes ≡ relocated base (addresses base undefined symbols) rs text
    → All (IsReached base (addresses base undefined symbols)) rs → IsLoaded text rs base (addresses base undefined symbols) bytes
loaded text symbols rs base undefined bytes can are is reach =
    let targets : List ℕ = addresses base undefined symbols in
    let n : ℕ = length text in
    let sites = recursion_from_All (IsCallSite n (length symbols)) rs can.sites in
    let words = are_words base undefined symbols are (recursion_from_All (IsPlaced base) symbols can.placed) in
    record {
      size = ap length is ∙ length-relocated base targets n (length symbols) rs text refl sites;
      kept = λ k outside.
          ap (λ (ys : List ℕ). get_or ys k 0) is
          ∙ byte_kept base targets n (length symbols) rs k text refl sites (recursion_from_All (IsOutside k) rs outside);
      reach = reach;
      calls = All-from_recursion (λ (r : Relocation). Calls bytes base (base + r.offset) (target_of targets r)) rs
          (all_call base targets n (length symbols) rs text bytes refl is can.fits words sites can.apart
          (recursion_from_All (IsReached base targets) rs reach));
    }
