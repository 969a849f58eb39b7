-- A table is read of its text, and of no other table's.
use Rattle.std.proofs.Common.{◌≡◌, ℕ, zero, suc, ◌+◌, ◌≤◌, List, length, Some, None, arith, sym, ap, ◌∙◌}
use Rattle.team_files.specs.declared.kind.Kind.{Kind}
use Rattle.rule_sets.specs.Files.{DrawFile}
use Rattle.rule_sets.specs.Forms.{HasForm, FilesHaveForm}
use Rattle.draw_tables.specs.declared.group_place.GroupPlace.{GroupPlace}
use Rattle.draw_tables.specs.declared.group_table.GroupTable.{GroupTable}
use Rattle.draw_tables.specs.declared.pair_table.PairTable.{PairTable}
use Rattle.draw_tables.specs.declared.table.Table.{Table}
use Rattle.draw_tables.specs.declared.table.Table.TheVariants.{Group, Pairs}
use Rattle.draw_tables.specs.Pots.{runners_up}
use Rattle.draw_tables.specs.GroupTables.{IsFilePlace, AreFilePlaces}
use Rattle.draw_tables.specs.TableTexts.{code_of, place_text, IsWritable, AreWritable, IsTextOf, OneTableOfText}
use Rattle.draw_tables.specs.Reading.{front_team, front_place, teams_in, places_in}
use Rattle.draw_tables.proofs.Lists.{same_item, each_among, each_from}
use Rattle.draw_tables.proofs.HalfOfTeams.{half}
use Rattle.draw_tables.proofs.PotOrder.{pot_at_most, pot_length}
use Rattle.draw_tables.proofs.TextReading.{AreReadable, read_has_text, text_is_read}
use Rattle.draw_tables.proofs.ReadableItems.{IsWithin, IsPlaceWithin, codes_readable, places_readable}

one_before : (n : ℕ) → 1 ≤ n → (m : ℕ) × (m + 1 ≡ n)
one_before zero le = absurd (omega arith)
one_before (suc m) le = (m, omega arith)

-- ---- pairings

codes_of : (file : DrawFile) → HasForm file → AreReadable (front_team file.teams) 3 (code_of file.teams) (IsWithin file.teams)
codes_of file form = codes_readable file.teams form.common.codes form.common.distinct_codes

-- what is read of bytes has them as its text
pub read_is_text : (file : DrawFile) (pairs : PairTable) (more : ℕ) (bytes : List ℕ) → HasForm file → file.kind ≡ Kind.Pairing → more + 1 ≡ length (runners_up file)
    → teams_in file.teams more bytes ≡ Some pairs.winners → IsTextOf file (Pairs pairs) bytes
read_is_text file pairs more bytes form kind size e =
    let h = read_has_text (front_team file.teams) 3 (code_of file.teams) (IsWithin file.teams) (codes_of file form) more bytes pairs.winners e in
    record { of_file = record { kind = kind; size = h.size ∙ size; teams = h.within }; text = h.text }

-- a table is read of its text
pub text_gives : (file : DrawFile) (pairs : PairTable) (more : ℕ) (bytes : List ℕ) → HasForm file → more + 1 ≡ length (runners_up file)
    → IsTextOf file (Pairs pairs) bytes → teams_in file.teams more bytes ≡ Some pairs.winners
text_gives file pairs more bytes form size h =
    text_is_read (front_team file.teams) 3 (code_of file.teams) (IsWithin file.teams) (codes_of file form) more bytes pairs.winners
    (record { size = h.of_file.size ∙ sym size; within = h.of_file.teams; text = h.text })

-- where nothing is read the bytes are no table's text
pub no_text : (file : DrawFile) (table : Table) (more : ℕ) (bytes : List ℕ) → HasForm file → file.kind ≡ Kind.Pairing → more + 1 ≡ length (runners_up file)
    → teams_in file.teams more bytes ≡ None → IsTextOf file table bytes → ⊥
no_text file (Group groups) more bytes form kind size none h = let other = sym kind ∙ h.of_file.kind in cc
no_text file (Pairs pairs) more bytes form kind size none h = let some = text_gives file pairs more bytes form size h in cc

-- ---- group draws

-- the file of a group draw has a team
pub some_team : (file : DrawFile) → HasForm file → file.kind ≡ Kind.Group → 1 ≤ length file.teams
some_team file form kind =
    let group = form.group kind in
    let full = group.full_pots 1 (omega arith) group.pots.0 in
    let size = pot_length 1 file in
    let most = pot_at_most 1 file in
    let some = group.groups.0 in
    omega arith

-- what is read of bytes has them as its text
pub read_is_places : (file : DrawFile) (groups : GroupTable) (more : ℕ) (bytes : List ℕ) → file.kind ≡ Kind.Group → more + 1 ≡ length file.teams
    → places_in file.groups file.pots more bytes ≡ Some groups.places → IsTextOf file (Group groups) bytes
read_is_places file groups more bytes kind size e =
    let h = read_has_text (front_place file.groups file.pots) 2 place_text (IsPlaceWithin file.groups file.pots) (places_readable file.groups file.pots) more bytes groups.places e in
    record {
      of_file = record { kind = kind; size = h.size ∙ size };
      within = λ place among. each_among (IsFilePlace file) groups.places h.within place among;
      text = h.text;
    }

-- a table is read of its text
pub text_gives_places : (file : DrawFile) (groups : GroupTable) (more : ℕ) (bytes : List ℕ) → more + 1 ≡ length file.teams
    → IsTextOf file (Group groups) bytes → places_in file.groups file.pots more bytes ≡ Some groups.places
text_gives_places file groups more bytes size h =
    text_is_read (front_place file.groups file.pots) 2 place_text (IsPlaceWithin file.groups file.pots) (places_readable file.groups file.pots) more bytes groups.places
    (record { size = h.of_file.size ∙ sym size; within = each_from (IsFilePlace file) groups.places h.within; text = h.text })

-- where nothing is read the bytes are no table's text
pub no_places : (file : DrawFile) (table : Table) (more : ℕ) (bytes : List ℕ) → file.kind ≡ Kind.Group → more + 1 ≡ length file.teams
    → places_in file.groups file.pots more bytes ≡ None → IsTextOf file table bytes → ⊥
no_places file (Group groups) more bytes kind size none h = let some = text_gives_places file groups more bytes size h in cc
no_places file (Pairs pairs) more bytes kind size none h = let other = sym kind ∙ h.of_file.kind in cc

-- ---- the law

-- two tables of one text are one
pub one_table_of_text : FilesHaveForm → OneTableOfText
one_table_of_text forms file (Pairs one) (Pairs other) bytes formed h g =
    let form = forms file formed in
    let more = one_before (length (runners_up file)) (half file form.common (form.pairing h.of_file.kind)).1 in
    let a = text_gives file one more.0 bytes form more.1 h in
    let b = text_gives file other more.0 bytes form more.1 g in
    let same : one.winners ≡ other.winners = same_item one.winners other.winners (sym a ∙ b) in
    ap (λ ts. Pairs (record { winners = ts })) same
one_table_of_text forms file (Group one) (Group other) bytes formed h g =
    let form = forms file formed in
    let more = one_before (length file.teams) (some_team file form h.of_file.kind) in
    let a = text_gives_places file one more.0 bytes more.1 h in
    let b = text_gives_places file other more.0 bytes more.1 g in
    let same : one.places ≡ other.places = same_item one.places other.places (sym a ∙ b) in
    ap (λ ps. Group (record { places = ps })) same
one_table_of_text forms file (Group one) (Pairs other) bytes formed h g = let clash = sym h.of_file.kind ∙ g.of_file.kind in cc
one_table_of_text forms file (Pairs one) (Group other) bytes formed h g = let clash = sym h.of_file.kind ∙ g.of_file.kind in cc

-- ---- writing

-- the places of a file have letters and digits
pub file_places_writable : (file : DrawFile) (places : List GroupPlace) → HasForm file → file.kind ≡ Kind.Group → AreFilePlaces file places → AreWritable places
file_places_writable file places form kind within = each_from IsWritable places (λ place among. by place (within place among))
  where
    by : (place : GroupPlace) → IsFilePlace file place → IsWritable place
    by place h =
        let group = form.group kind in
        let groups = group.groups.1 in
        let pots = group.pots.1 in
        let one = h.0 in
        let two = h.1.1 in
        (omega arith, omega arith)
