mod CutOff
