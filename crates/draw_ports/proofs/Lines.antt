-- What a sink was given of a line, by the writes of its parts.
use Rattle.std.proofs.Common.{◌≡◌, ℕ, ◌+◌, ◌<◌, ◌++◌, List, [], ◌∷◌, length, take, Option, Some, None, Result, Ok, Err, OnOk, OnErr, refl, sym, arith, length-append}
use Rattle.std.proofs.KnownBytes.{Appends-trans}
use Rattle.std.proofs.Math.Seq.{take-append-add, take-length}
use Rattle.std.proofs.lemmas.List.{append-nil, take-append-le}
use Rattle.std.specs.Io.KnownBytes.{Appends}
use Rattle.draw_ports.specs.Causes.{Rose, AppendsSome}
use Rattle.draw_ports.specs.Exits.{IsTold, line_with}

-- no bytes change nothing
pub Appends-none : (old : Option (List ℕ)) → Appends old old []
Appends-none None = tt
Appends-none (Some xs) = sym (append-nil xs)

-- the line of a text that is there
pub line_with-some : (name text : List ℕ) → 0 < length text → line_with name text ≡ name ++ text
line_with-some name [] some = absurd (omega (arith, some))
line_with-some name (byte ∷ text) some = refl

-- there is no text
pub told_nothing : (name text : List ℕ) (old : Option (List ℕ)) (before : ℕ) → length text ≡ 0
    → IsTold (line_with name text) old old before before
told_nothing name [] old before none =
    record { whole = λ _. Appends-none old; part = (0, omega arith, Appends-none old) }
told_nothing name (byte ∷ text) old before none = absurd (omega (arith, none))

-- the sink failed at the name
pub told_name_part : (name text : List ℕ) (old new : Option (List ℕ)) (before now : ℕ)
    → 0 < length text → AppendsSome old new name → Rose before now
    → IsTold (line_with name text) old new before now
told_name_part name text old new before now some part rose =
    rw (line_with-some name text some)
    (record {
      whole = λ quiet. absurd (quiet rose);
      part = (part.0, omega (arith, part.1, length-append name text), rw (take-append-le part.0 name text part.1) part.2);
    })

-- the name went out, and then the text as far as the sink took it
pub told_text : {A E : Type 0} (F : Type 0) (r : Result A E) (name text : List ℕ)
    (old between new : Option (List ℕ)) (before meanwhile now : ℕ)
    → 0 < length text → Appends old between name → meanwhile ≡ before
    → OnOk r (Appends between new text) → OnErr r (AppendsSome between new text)
    → OnErr r (F × Rose meanwhile now)
    → IsTold (line_with name text) old new before now
told_text F (Ok _) name text old between new before meanwhile now some first quiet whole part rose =
    let all : Appends old new (name ++ text) = Appends-trans old between new name text first whole in
    rw (line_with-some name text some)
    (record {
      whole = λ _. all;
      part = (length (name ++ text), omega arith, rw (take-length (name ++ text)) all);
    })
told_text F (Err _) name text old between new before meanwhile now some first quiet whole part rose =
    rw (line_with-some name text some)
    (record {
      whole = λ calm. absurd (calm (rw (← quiet) rose.1));
      part = (
        length name + part.0,
        omega (arith, part.1, length-append name text),
        rw (take-append-add name text part.0) (Appends-trans old between new name (take part.0 text) first part.2),
      );
    })
