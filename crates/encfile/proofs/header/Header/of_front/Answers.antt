use Rattle.std.proofs.Common.{◌≡◌, ◌∙◌, List, ℕ, Some, None, OnOk, IfOk, IfErr, arith, ap, subst}
use Rattle.encfile.specs.Header.{IsHeaderOf, costs_of, salt_of}
use Rattle.encfile.specs.HeaderFaults.{header_fault}
use Rattle.encfile.proofs.Headers.{costs_of-take, header_fault-take}
use Rattle.encfile.proofs.Pieces.{bytes_at-take}
use Rattle.encfile.proofs.header.Header.of_front.Goals as goal

pub returns : goal.returns
returns c =
    let front : List ℕ = c.args.front.now in
    let read : List ℕ = c.copy_from_slice.new.self in
    let costs : costs_of read ≡ costs_of front = ap costs_of c.copy_from_slice.ensures.after ∙ costs_of-take 64 front (omega arith) in
    let salt : salt_of read ≡ salt_of front = ap salt_of c.copy_from_slice.ensures.after ∙ bytes_at-take 64 16 32 front (omega arith) in
    let first : header_fault read ≡ header_fault front = ap header_fault c.copy_from_slice.ensures.after ∙ header_fault-take 64 front (omega arith) in
    record {
      reads = record {
        costs = subst (λ said. IfOk c.read.result (λ header. header.costs ≡ said)) costs c.read.ensures.costs;
        salt = subst (λ said. IfOk c.read.result (λ header. header.salt ≡ said)) salt c.read.ensures.salt;
        header = subst (λ (list : List ℕ). IfOk c.read.result (λ header. IsHeaderOf list header)) c.copy_from_slice.ensures.after c.read.ensures.header;
        valid = subst (λ fault. OnOk c.read.result (fault ≡ None)) first c.read.ensures.valid;
        fault = subst (λ found. IfErr c.read.result (λ fault. found ≡ Some fault)) first c.read.ensures.fault;
      };
    }
