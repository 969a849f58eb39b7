-- The line that tells why a head has no draw file.
use Rattle.std.specs.Prelude.{ℕ, List, ◌++◌, codes}
use Rattle.std.specs.Fmt.{decimal}
use Rattle.team_files.specs.declared.fault.Field.{Field}
use Rattle.team_files.specs.declared.fault.FileFault.{FileFault}

-- a member's name
abbrev pub field_text : Field → List ℕ
field_text Field.Kind = codes "kind"
field_text Field.Groups = codes "groups"
field_text Field.Pots = codes "pots"
field_text Field.Teams = codes "teams"
field_text Field.Code = codes "code"
field_text Field.Name = codes "name"
field_text Field.Pot = codes "pot"
field_text Field.Tags = codes "tags"
field_text Field.Group = codes "group"
field_text Field.Limits = codes "limits"
field_text Field.Tag = codes "tag"
field_text Field.Lo = codes "lo"
field_text Field.Hi = codes "hi"
field_text Field.Pairs = codes "pairs"
field_text Field.Places = codes "places"
field_text Field.Position = codes "position"

-- a fault's number, name and values
abbrev pub cause_text : FileFault → List ℕ
cause_text FileFault.NotJson = codes "1 NotJson"
cause_text FileFault.NotObject = codes "2 NotObject"
cause_text (FileFault.KindUnknown text) = codes "3 KindUnknown"
cause_text (FileFault.FieldMissing name) = codes "4 FieldMissing " ++ field_text name
cause_text (FileFault.FieldWrong name) = codes "5 FieldWrong " ++ field_text name
cause_text (FileFault.TooMany what number) = codes "6 TooMany " ++ field_text what ++ codes " " ++ decimal number
cause_text (FileFault.BadCode place) = codes "7 BadCode " ++ decimal place
cause_text (FileFault.SameCode code) = codes "8 SameCode " ++ code
cause_text (FileFault.PotSize pot number) = codes "9 PotSize " ++ decimal pot ++ codes " " ++ decimal number
cause_text (FileFault.UnknownTag place) = codes "10 UnknownTag " ++ decimal place
cause_text (FileFault.BadPair place) = codes "11 BadPair " ++ decimal place
cause_text (FileFault.BadPlace place) = codes "12 BadPlace " ++ decimal place
cause_text FileFault.NoMemory = codes "13 NoMemory"
cause_text FileFault.KindNotBuilt = codes "14 KindNotBuilt"

-- The line of a refused head.
abbrev pub fault_line : FileFault → List ℕ
fault_line fault = codes "file refused " ++ cause_text fault ++ codes "\n"
