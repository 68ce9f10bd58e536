use Rattle.tn_theorems.proofs.sessions.one_loop.Joined.happen.Goals as goal

pub returns-in-Typed-clause-happens : goal.returns-in-Typed-clause-happens
returns-in-Typed-clause-happens c = rw c.in-Typed.is c.tell.ensures.tells

pub returns-in-Typed-clause-refused : goal.returns-in-Typed-clause-refused
returns-in-Typed-clause-refused c = rw c.in-Typed.is c.tell.ensures.refused

pub returns-in-Asked-clause-happens : goal.returns-in-Asked-clause-happens
returns-in-Asked-clause-happens c = rw c.in-Asked.is c.tell-in-Asked.ensures.tells

pub returns-in-Asked-clause-refused : goal.returns-in-Asked-clause-refused
returns-in-Asked-clause-refused c = rw c.in-Asked.is c.tell-in-Asked.ensures.refused

pub returns-in-Take-clause-happens : goal.returns-in-Take-clause-happens
returns-in-Take-clause-happens c = rw c.in-Take.is c.serve.ensures.serves

pub returns-in-Take-clause-refused : goal.returns-in-Take-clause-refused
returns-in-Take-clause-refused c = rw c.in-Take.is c.serve.ensures.refused
