use Rattle.draw_tables.specs.GroupTables.{AreFilePlaces}
use Rattle.draw_tables.specs.Tables.{IsGroupTableOf}
use Rattle.draw_tables.proofs.TableReading.{file_places_writable}
use Rattle.draw_tables.proofs.table_texts.table_text.Goals as goal

pub places_text-requires : goal.places_text-requires
places_text-requires c =
    let of_file : IsGroupTableOf c.args.file.now c.in-Group.groups.places = rw c.in-Group.is at c.requires.of_file in
    let within : AreFilePlaces c.args.file.now c.in-Group.groups.places = rw c.in-Group.is at c.requires.within in
    rw c.places.ensures (file_places_writable c.args.file.now c.in-Group.groups.places c.expect_form.ensures.form of_file.kind within)
