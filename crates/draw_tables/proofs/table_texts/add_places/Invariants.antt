use Rattle.std.proofs.Common.{◌≡◌, ◌++◌, drop}
use Rattle.draw_tables.specs.TableTexts.{AreWritable, places_text, spaced_places}
use Rattle.draw_tables.proofs.table_texts.add_places.Given as goal

-- the text so far and the places that are left are the whole
abbrev pub invariant-loop-place : goal.invariant-loop-place
invariant-loop-place l = record {
  places : AreWritable (drop l.place-index l.others);
  whole : l.text.items ++ spaced_places (drop l.place-index l.others) ≡ l.fn.text.items ++ places_text l.fn.places;
}
