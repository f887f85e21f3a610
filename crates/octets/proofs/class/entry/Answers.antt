-- `octets::class::entry` meets its contract: the rule of the table is one test over its 64 entries, which antt computes.
-- Assumes nothing.
use Prim.Native.Nat.{◌%◌, ◌/◌, ℕ}
use Rattle.octets.proofs.Numbers.{named_number}
use Rattle.octets.proofs.Table.{rule}
use Rattle.octets.specs.Class.{class_number, named, number_of}
use Rattle.octets.specs.declared.class.FrameClass.{FrameClass}
use Rattle.octets.specs.declared.class.FrameClass.TheVariants.{None, One, Two, Three}
use borrow.Author.Rules.{rules}
use lib.ListN.{get_or}
use mathlib.Core.List.{List, [], ◌∷◌}
use mathlib.Core.Path.{◌∙◌, ap, sym}
use Rattle.octets.proofs.class.entry.Goals as goal

classes : List FrameClass
classes =
    Two ∷ Two ∷ Two ∷ Two ∷ One ∷ One ∷ None ∷ None ∷ One ∷ One ∷ Two ∷ One ∷ One ∷ Three ∷ Three ∷ None ∷
    None ∷ None ∷ None ∷ None ∷ None ∷ None ∷ None ∷ None ∷ Three ∷ Three ∷ Three ∷ One ∷ One ∷ One ∷ One ∷ One ∷
    Three ∷ Three ∷ Three ∷ Three ∷ Three ∷ Three ∷ Three ∷ Three ∷ Three ∷ Three ∷ Three ∷ Three ∷ Three ∷ None ∷ Three ∷ Three ∷
    None ∷ None ∷ None ∷ None ∷ None ∷ None ∷ None ∷ None ∷ None ∷ None ∷ None ∷ None ∷ None ∷ None ∷ None ∷ None ∷ []

pub returns : goal.returns
unfolding classes
returns c =
    let i = c.args.i in
    sym (named_number (get_or classes i None)) ∙ ap named (rule None number_of (λ (k : ℕ). class_number (k / 16) (k % 16)) classes tt i (search rules))
