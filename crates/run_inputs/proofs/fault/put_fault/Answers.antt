use Rattle.run_inputs.proofs.fault.put_fault.Goals as goal

pub returns-in-NoThread : goal.returns-in-NoThread
returns-in-NoThread g c = rw c.in-NoThread.is c.push-in-NoThread.ensures
