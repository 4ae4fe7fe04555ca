-- The leading words that lie in bytes.
use Rattle.std.specs.Prelude.{List, ℕ}
use Rattle.words.specs.Word.{Word}
use Rattle.words.specs.Laid.{laid_word, laid_words}
use Rattle.overlapsearch.specs.declared.leading.LeadingWords.{LeadingWords}

-- Word g, from 0.
abbrev pub word_in : LeadingWords → ℕ → Word
word_in w g = laid_word w.starts.now w.lens.now w.bytes.now g

-- All of them.
abbrev pub words_in : LeadingWords → List Word
words_in w = laid_words w.starts.now w.lens.now w.bytes.now w.count
