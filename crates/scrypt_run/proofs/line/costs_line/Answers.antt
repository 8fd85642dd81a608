use Rattle.std.proofs.Common.{◌≡◌, ◌∙◌, ◌++◌, codes, string_bytes}
use Rattle.std.specs.Fmt.{decimal}
use Rattle.scrypt_run.proofs.Ends.{if_ok}
use Rattle.scrypt_run.proofs.Fronts.{costs_line-is}
use Rattle.scrypt_run.proofs.line.costs_line.Goals as goal

pub returns : goal.returns
returns c =
    let n = c.n-n.result in
    let r = c.r-r.result in
    let p = c.p-p.result in
    let memory = c.table_bytes-memory.result in
    let cores = c.cores-cores.result in
    let whole = costs_line-is c.args.costs.now n r p memory cores c.n-n.ensures.n c.r-r.ensures.r c.p-p.ensures.p c.table_bytes-memory.ensures.bytes
    c.cores-cores.ensures.cores in
    record {
      line = if_ok {P = λ s. string_bytes s ≡ codes "N = " ++ (decimal n ++ (codes "; r = " ++ (decimal r ++ (codes "; p = " ++ (decimal p
          ++ (codes "; memory = " ++ (decimal memory ++ (codes "; cores = " ++ (decimal cores ++ codes "\n")))))))))}
          c.format.result (λ s h. h ∙ whole) c.format.ensures.ok;
    }
