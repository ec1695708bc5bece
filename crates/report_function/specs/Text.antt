-- The text of a report.
use Rattle.std.specs.Prelude.{ℕ, List, [], ◌∷◌, ◌++◌, codes}
use Rattle.std.specs.List.{flat_map}
use Rattle.std.specs.Fmt.{decimal}
use Rattle.listing_text.specs.Output.{name_text}
use Rattle.pass_trait.specs.declared.loss.Reason.{Reason}
use Rattle.pass_trait.specs.declared.loss.Reason.TheVariants.{Removed, WrongPlace, Scratch, Bypassed, Unreachable, NoScratch, CallNamed, EntryLoop, NoSlot}
use Rattle.pass_trait.specs.declared.loss.Lost.{Lost}
use Rattle.pass_trait.specs.declared.loss.Lost.TheVariants.{Number, Mark, Register}
use Rattle.pass_trait.specs.declared.loss.Loss.{Loss}
use Rattle.report_function.specs.declared.report.Cover.{Cover}
use Rattle.report_function.specs.declared.report.Report.{Report}

-- the words for reasons
abbrev pub reason_text : Reason → List ℕ
reason_text Removed = codes "removed"
reason_text WrongPlace = codes "wrong-place"
reason_text Scratch = codes "scratch"
reason_text Bypassed = codes "bypassed"
reason_text Unreachable = codes "unreachable"
reason_text NoScratch = codes "no-scratch"
reason_text CallNamed = codes "call-named"
reason_text EntryLoop = codes "entry-loop"
reason_text NoSlot = codes "no-slot"

-- a lost debug instruction number, a lost debug value by its position in the source, or a register that was to be spilled and was kept
abbrev pub lost_text : Lost → List ℕ
lost_text (Number k) = codes "lost number " ++ decimal k
lost_text (Mark p) = codes "lost mark " ++ decimal p.block ++ codes "." ++ decimal p.item
lost_text (Register r) = codes "kept register x" ++ decimal r

-- the line of a loss
abbrev pub loss_line : Loss → List ℕ
loss_line l = lost_text l.what ++ codes " " ++ reason_text l.reason ++ 10 ∷ []

-- the line of a variable: the number of words in its ranges, of all words; the name is spelled as in the listing
abbrev pub cover_line : (words : ℕ) → Cover → List ℕ
cover_line n c = codes "cover " ++ name_text c.name ++ codes " " ++ decimal c.words ++ codes " of " ++ decimal n ++ 10 ∷ []

-- the first two lines: the name of the function, and the number of words of its code
abbrev pub head_text : (name : List ℕ) → (words : ℕ) → List ℕ
head_text name n = codes "function " ++ name_text name ++ codes "\nwords " ++ decimal n ++ 10 ∷ []

-- the lines of the report: the function, its number of words, its variables, and its losses
abbrev pub report_text : Report → List ℕ
report_text r = head_text r.name r.words ++ flat_map (cover_line r.words) r.covers ++ flat_map loss_line r.losses
