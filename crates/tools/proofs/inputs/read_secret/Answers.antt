use Rattle.tools.proofs.inputs.read_secret.Goals as goal

-- a variable is read, and nothing is opened
pub returns-in-Env-clause-kept : goal.returns-in-Env-clause-kept
returns-in-Env-clause-kept g c = λ t. record { source = (g.S.System.state c.args.system.now).secret; same = c.variable.ensures.same t }
