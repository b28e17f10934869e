use Rattle.lab_workers.proofs.desk_calls.share_desk.Given as goal

abbrev pub ghosts-at_desk-L-Ledger : goal.ghosts-at_desk-L-Ledger
ghosts-at_desk-L-Ledger a = record { name = a.blank.name; parts = a.blank.parts }

abbrev pub ghosts-at_desk-L-Round : goal.ghosts-at_desk-L-Round
ghosts-at_desk-L-Round a = record { workers = a.asked.workers; bb = 0; present = 0; opening = a.book }
