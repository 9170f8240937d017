-- First there is room, and then the entry is added.
use Rattle.alt_due.proofs.due.Due.note.Goals as goal

pub returns-in-Ok-clause-ripe : goal.returns-in-Ok-clause-ripe
returns-in-Ok-clause-ripe c moment later ripe =
    c.in-Ok.ensures.ripe moment later (c.make_room.ensures.ripe moment ripe)
