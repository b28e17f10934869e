use Rattle.runs.proofs.width.width_placed.Goals as goal

pub search_placed-requires-clause-start : goal.search_placed-requires-clause-start
search_placed-requires-clause-start g c κs within = rw c.in-Search.is at c.requires.plan

pub upward_placed-requires-clause-start : goal.upward_placed-requires-clause-start
upward_placed-requires-clause-start g c κs within = rw c.in-Upward.is at c.requires.plan

pub returns-in-Search-clause-runs : goal.returns-in-Search-clause-runs
returns-in-Search-clause-runs g c = rw c.in-Search.is c.search_placed.ensures.runs

pub returns-in-Upward-clause-runs : goal.returns-in-Upward-clause-runs
returns-in-Upward-clause-runs g c = rw c.in-Upward.is c.upward_placed.ensures.runs
