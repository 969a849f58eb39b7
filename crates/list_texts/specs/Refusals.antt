-- What is written of a text that is refused.
use Rattle.std.specs.Prelude.{ℕ, List, [], ◌++◌, codes}
use Rattle.std.specs.Fmt.{decimal}
use Rattle.count_core.specs.declared.faults.CoreFault.{CoreFault}
use Rattle.count_core.specs.declared.faults.CoreFault.TheVariants.{AtomRange, RepeatedAtom, BadBounds, NoMemory}

-- the line of a text that is no list, or no inquiry, by the first line that is wrong
abbrev pub no_list_line : ℕ → List ℕ
no_list_line line = codes "not a list " ++ (decimal line ++ codes "\n")

-- the line of the rules' fault
abbrev pub fault_line : CoreFault → List ℕ
fault_line (AtomRange rule) = codes "problem refused " ++ decimal rule ++ codes " AtomRange\n"
fault_line (RepeatedAtom rule) = codes "problem refused " ++ decimal rule ++ codes " RepeatedAtom\n"
fault_line (BadBounds rule) = codes "problem refused " ++ decimal rule ++ codes " BadBounds\n"
fault_line NoMemory = []
