use Rattle.memory_system.proofs.Opened.{opens-random, opens-secret}
use Rattle.memory_system.proofs.system.MemorySystem.open_stream.Goals as goal

pub returns-in_ok-source-in-Secret-clause-opened :
    goal.returns-in_ok-source-in-Secret-clause-opened
returns-in_ok-source-in-Secret-clause-opened c = opens-secret c.args.reading c.in-Secret.is _
    c.in_ok-source-in-Secret.source.left _ c.args.self.now c.open.new.self c.self.view_is
    c.in_ok-source-in-Secret.ensures.given c.open.ensures.opened

pub returns-in_ok-source-in-Random-clause-opened :
    goal.returns-in_ok-source-in-Random-clause-opened
returns-in_ok-source-in-Random-clause-opened c = opens-random c.args.reading c.in-Random.is _
    c.in_ok-source-in-Random.source.left _ c.args.self.now c.open-in-Random.new.self c.self.view_is
    c.in_ok-source-in-Random.ensures.given c.open-in-Random.ensures.opened
