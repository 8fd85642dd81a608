use Rattle.scrypt_run.proofs.Ends.{err_of, ok_of}
use Rattle.scrypt_run.proofs.run_request.run.Goals as goal

pub returns-in-Encrypt-clause-memory_granted : goal.returns-in-Encrypt-clause-memory_granted
returns-in-Encrypt-clause-memory_granted g c = rw c.in-Encrypt.is (ok_of _ c.run_encryption.result (λ granted. granted) c.run_encryption.ensures.memory)

pub returns-in-Encrypt-clause-memory_asked : goal.returns-in-Encrypt-clause-memory_asked
returns-in-Encrypt-clause-memory_asked g c = rw c.in-Encrypt.is (err_of _ c.run_encryption.result (λ r asked. asked) c.run_encryption.ensures.memory)

pub returns-in-Decrypt-clause-memory_granted : goal.returns-in-Decrypt-clause-memory_granted
returns-in-Decrypt-clause-memory_granted g c = rw c.in-Decrypt.is (ok_of _ c.run_decryption.result (λ granted. granted) c.run_decryption.ensures.memory)

pub returns-in-Decrypt-clause-memory_asked : goal.returns-in-Decrypt-clause-memory_asked
returns-in-Decrypt-clause-memory_asked g c = rw c.in-Decrypt.is (err_of _ c.run_decryption.result (λ r asked. asked) c.run_decryption.ensures.memory)

pub returns-in-Inspect-clause-memory_granted : goal.returns-in-Inspect-clause-memory_granted
returns-in-Inspect-clause-memory_granted g c = rw c.in-Inspect.is (ok_of _ c.inspect.result (λ granted. granted) c.inspect.ensures.memory)

pub returns-in-Inspect-clause-memory_asked : goal.returns-in-Inspect-clause-memory_asked
returns-in-Inspect-clause-memory_asked g c = rw c.in-Inspect.is (err_of _ c.inspect.result (λ r asked. asked) c.inspect.ensures.memory)
